use Rattle.css_lexer.proofs.EscapeLemmas.{escape_place}
use Rattle.css_lexer.proofs.escapes.push_escape.Goals as goal

pub returns-clause-place : goal.returns-clause-place
returns-clause-place c = escape_place _ _ _ c.utf8.text c.requires.within c.requires.escape c.escape_len.ensures
