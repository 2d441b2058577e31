use Rattle.std.proofs.Common.{◌∙◌, ap}
use Rattle.std.specs.Str.{chars}
use Rattle.std.proofs.lemmas.Str.{chars-nil}
use Rattle.css_lexer.specs.Tokens.{token}
use Rattle.css_lexer.proofs.lexer.plain_token.Goals as goal

pub returns : goal.returns
returns c = ap (token c.args.kind c.args.from c.args.to) (c.from_string.ensures ∙ ap chars c.new.ensures.bytes ∙ chars-nil)
