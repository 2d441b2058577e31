use Rattle.css_parser.proofs.ChoiceLemmas.{not_empty}
use Rattle.css_parser.proofs.GrammarLemmas as lemma
use Rattle.css_parser.proofs.grammar.without_element.Goals as goal

pub returns : goal.returns
returns c = lemma.without_element _ _ _ _ _ c.requires.stands (not_empty _ _ c.is_empty.ensures c.if-is_empty.false) c.in_ok-read.ensures
