use Rattle.std.proofs.Common.{◌∙◌, ap}
use Rattle.std.specs.Prelude.{slice_get}
use Rattle.step_index.proofs.indexed.Indexed.row_at.Goals as goal

pub returns-clause-row : goal.returns-clause-row
returns-clause-row g c = c.looked_up.ensures.row ∙ ap (λ v. slice_get v c.args.k) (c.under.ensures ∙ c.args.self.now.named c.args.name.now c.utf8.name)
