use Rattle.xpath_lexer.proofs.laws.one_spelling.Goals as goal
use Rattle.xpath_lexer.proofs.Spelling as spelling

pub returns : goal.returns
returns c = λ text a b r q. spelling.one_spelling b r q
