use Rattle.css_lexer.proofs.SpelledTokens.{read_back}
use Rattle.css_lexer.proofs.laws.plain_texts_are_read_back.Goals as goal

pub returns : goal.returns
returns c = read_back
