use Rattle.std.proofs.Common.{sym, ◌∙◌, ap}
use Rattle.std.specs.Prelude.{slice_get}
use Rattle.step_index.proofs.Places as places
use Rattle.step_index.proofs.look_ups.row_before.Goals as goal

pub returns-then-y-end-clause-row : goal.returns-then-y-end-clause-row
returns-then-y-end-clause-row g c = λ p n le is.
    sym (places.before_some p c.args.end n c.args.k c.in-Some.y le (sym (c.in-Some.ensures.row ∙ ap (λ v. slice_get v c.args.k) is)) c.if-y-end.true)

pub returns-else-y-end-clause-row : goal.returns-else-y-end-clause-row
returns-else-y-end-clause-row g c = λ p n le is.
    sym (places.before_past p c.args.end n c.args.k c.in-Some.y le (sym (c.in-Some.ensures.row ∙ ap (λ v. slice_get v c.args.k) is)) c.if-y-end.false)

pub returns-in-None-clause-row : goal.returns-in-None-clause-row
returns-in-None-clause-row g c = λ p n le is.
    sym (places.before_none p c.args.end n c.args.k le (sym (c.in-None.ensures.row ∙ ap (λ v. slice_get v c.args.k) is)))
