use Rattle.std.proofs.Common.{subst, Ok}
use Rattle.std.specs.Prelude.{Option}
use Rattle.html_lexer.specs.Tokens.{view}
use Rattle.html_lexer.specs.Lexing.{Begins, GivesToken, IsNext}
use Rattle.html_lexer.specs.declared.lexer.Token.{Token}
use Rattle.html_lexer.proofs.StepLemmas.{attrs_of}
use Rattle.worked_pages.proofs.tokens.reads_attributes.Goals as goal

pub new-list-requires : goal.new-list-requires
new-list-requires g c =
    let old = c.new-lexer.result in
    let given : GivesToken old c.in-Ok-Some-Start.field-0-0 c.next.new.self =
    subst (λ (o : Option Token). IsNext old (Ok o) c.next.new.self) c.in-Ok-Some-Start.field-0-is c.in-Ok-Some-Start.ensures.next in
    attrs_of _ _ _ _ _ _ _ _ (subst (λ (t : Token). Begins old.text old.name old.at (view t)) c.in-Ok-Some-Start.field-0-0-is given.0)
