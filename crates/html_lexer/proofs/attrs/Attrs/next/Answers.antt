use Rattle.std.proofs.Common.{◌≡◌, refl, ◌∙◌, ap}
use Rattle.std.specs.Prelude.{slice_range}
use Rattle.html_lexer.specs.State.{AttrReading}
use Rattle.html_lexer.proofs.StepLemmas.{given_attr, last_attr}
use Rattle.html_lexer.proofs.attrs.Attrs.next.Goals as goal

pub returns-in-Reads-clause-next : goal.returns-in-Reads-clause-next
returns-in-Reads-clause-next c =
    let inside : AttrReading = record { text = c.self.inside.attrs.now; at = c.self.inside.at } in
    let e : inside ≡ c.args.self.now = cc c.self.view_is in
    let a = c.in-Reads.a in (
      a,
      given_attr c.args.self.now inside a e c.in-Reads.ensures.step,
      ap (λ n. (n, c.part-value.result.now)) (c.part-name.ensures ∙ ap (λ (r : AttrReading). slice_range r.text a.name a.name_to) e)
          ∙ ap (λ v. (slice_range c.args.self.now.text a.name a.name_to, v)) (c.part-value.ensures ∙ ap (λ (r : AttrReading). slice_range r.text a.value a.value_to) e),
      ap (λ (r : AttrReading). let new : AttrReading = record { text = r.text; at = a.to } in new) e,
    )

pub returns-in-Closes-clause-next : goal.returns-in-Closes-clause-next
returns-in-Closes-clause-next c =
    let inside : AttrReading = record { text = c.self.inside.attrs.now; at = c.self.inside.at } in
    let e : inside ≡ c.args.self.now = cc c.self.view_is in
    (last_attr c.args.self.now inside _ e tt c.in-Closes.ensures.step, refl)

pub returns-in-Refuses-clause-next : goal.returns-in-Refuses-clause-next
returns-in-Refuses-clause-next c =
    let inside : AttrReading = record { text = c.self.inside.attrs.now; at = c.self.inside.at } in
    let e : inside ≡ c.args.self.now = cc c.self.view_is in
    (last_attr c.args.self.now inside _ e tt c.in-Refuses.ensures.step, refl)
