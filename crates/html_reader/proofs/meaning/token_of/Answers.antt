use Rattle.std.proofs.Common.{subst}
use Rattle.html_lexer.specs.Tokens.{view}
use Rattle.html_lexer.specs.declared.lexer.Token.{Token}
use Rattle.html_reader.specs.inner.Keeping.{IsReadable}
use Rattle.html_reader.proofs.meaning.token_of.Goals as goal

pub start_tag-requires-clause-attrs : goal.start_tag-requires-clause-attrs
start_tag-requires-clause-attrs c = (subst (λ (t : Token). IsReadable (view t)) c.in-Start.is c.requires).1
