use Rattle.std.proofs.Common.{◌≡◌, refl, ap, subst}
use Rattle.html_lexer.specs.declared.steps.Step.TheVariants.{Fails}
use Rattle.html_lexer.specs.State.{Reading}
use Rattle.html_lexer.specs.Steps.{StepAt}
use Rattle.html_lexer.specs.Tokens.{view}
use Rattle.html_lexer.proofs.StepLemmas.{given, gone_on}
use Rattle.html_lexer.proofs.lexer.Lexer.next.Goals as goal

pub returns-in-Gives-clause-next : goal.returns-in-Gives-clause-next
returns-in-Gives-clause-next c =
    let inside : Reading = record { text = c.self.inside.text.now; at = c.self.inside.at; name = c.self.inside.name.now } in
    let e : inside ≡ c.args.self.now = cc c.self.view_is in (
      given c.args.self.now inside c.in-Gives.parts (view c.token_at-token.result) e c.in-Gives.ensures.step c.token_at-token.ensures.token,
      gone_on c.args.self.now inside c.end-self-inside.result c.name_after-self-inside.result.now (view c.token_at-token.result) e c.end-self-inside.ensures c.name_after-self-inside.ensures,
    )

pub returns-in-Fails-clause-next : goal.returns-in-Fails-clause-next
returns-in-Fails-clause-next c =
    let inside : Reading = record { text = c.self.inside.text.now; at = c.self.inside.at; name = c.self.inside.name.now } in
    let e : inside ≡ c.args.self.now = cc c.self.view_is in (
      subst (λ (r : Reading). StepAt r.text r.name r.at (Fails c.in-Fails.reason)) e c.in-Fails.ensures.step,
      ap (λ (r : Reading). r.at) e,
      refl,
    )
