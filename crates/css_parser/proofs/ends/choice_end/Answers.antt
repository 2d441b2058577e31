use Rattle.std.proofs.Common.{sym, ◌∙◌}
use Rattle.css_parser.proofs.TableLemmas as lemma
use Rattle.css_parser.proofs.ends.choice_end.Goals as goal

pub returns-in-Some-2 : goal.returns-in-Some-2
returns-in-Some-2 c w e = lemma.read_end c.args.text.now c.args.tokens.now c.args.at c.in-Some.word c.in-Some-2.read c.requires.within (sym c.word_at.ensures.value ∙ c.in-Some.is) (sym c.in-Some-2.is ∙ c.in_ok-read-in-Some.ensures.read) w e

pub returns-in-None-2 : goal.returns-in-None-2
returns-in-None-2 c w e = lemma.no_end c.args.text.now c.args.tokens.now c.args.at c.in-Some.word c.requires.within (sym c.word_at.ensures.value ∙ c.in-Some.is) (sym c.in-None-2.is ∙ c.in_ok-read-in-Some.ensures.read) w e
