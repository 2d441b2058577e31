use Rattle.html_lexer.proofs.SliceLemmas.{page_attributes}
use Rattle.html_lexer.proofs.TagLemmas.{same_attributes}
use Rattle.html_lexer.proofs.laws.one_attribute_list.Goals as goal

pub returns-clause-page : goal.returns-clause-page
returns-clause-page c = page_attributes

pub returns-clause-one : goal.returns-clause-one
returns-clause-one c = λ attrs ps qs h k. same_attributes attrs 0 ps qs h k
