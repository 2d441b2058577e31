use Rattle.std.proofs.Common.{◌∙◌, sym, ap, subst, Ok, None}
use Rattle.std.specs.Prelude.{Option, not}
use Rattle.html_lexer.specs.Tokens.{view}
use Rattle.html_lexer.specs.Lexing.{GivesToken, IsNext}
use Rattle.html_lexer.specs.declared.lexer.Token.{Token}
use Rattle.std.specs.Prelude.{codes}
use Rattle.std.specs.Str.{str_eq_ignore_ascii_case}
use Rattle.html_reader.specs.Pages.{IsMade}
use Rattle.html_reader.proofs.FragmentLemmas.{looks_first, looks_on, looks_found, looks_end, looks_fault}
use Rattle.html_reader.proofs.page.gets_root.Goals as goal

pub loop-token-init : goal.loop-token-init
loop-token-init c = looks_first c.args.text.now c.new-lexer.result c.new-lexer.ensures

pub loop-token-preserved : goal.loop-token-preserved
loop-token-preserved c =
    let given : GivesToken c.loop-token.lexer c.in-Ok-Some.token c.next.new.self = subst (λ (o : Option Token). IsNext c.loop-token.lexer (Ok o) c.next.new.self) c.in-Ok-Some.field-0-is c.in-Ok-Some.ensures.next in
    looks_on c.args.text.now c.loop-token.lexer c.next.new.self (view c.in-Ok-Some.token) c.loop-token.invariant (sym c.is_start.ensures ∙ c.if-is_start.false) given.0 given.1

pub returns-then-is_start : goal.returns-then-is_start
returns-then-is_start c =
    let given : GivesToken c.loop-token.lexer c.in-Ok-Some.token c.next.new.self = subst (λ (o : Option Token). IsNext c.loop-token.lexer (Ok o) c.next.new.self) c.in-Ok-Some.field-0-is c.in-Ok-Some.ensures.next in
    subst (IsMade c.args.text.now) (ap not (ap (λ n. str_eq_ignore_ascii_case n (codes "html")) (sym c.name_after.ensures) ∙ sym c.is_html.ensures))
    (looks_found c.args.text.now c.loop-token.lexer (view c.in-Ok-Some.token) c.loop-token.invariant given.0 (sym c.is_start.ensures ∙ c.if-is_start.true))

pub returns-in-Ok-None : goal.returns-in-Ok-None
returns-in-Ok-None c =
    let ended : IsNext c.loop-token.lexer (Ok None) c.next.new.self = subst (λ (o : Option Token). IsNext c.loop-token.lexer (Ok o) c.next.new.self) c.in-Ok-None.field-0-is c.in-Ok-None.ensures.next in
    looks_end c.args.text.now c.loop-token.lexer c.loop-token.invariant ended.0

pub returns-in-Err : goal.returns-in-Err
returns-in-Err c = looks_fault c.args.text.now c.loop-token.lexer _ c.loop-token.invariant c.in-Err.ensures.next.0
