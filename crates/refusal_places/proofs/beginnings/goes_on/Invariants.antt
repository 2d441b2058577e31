use Rattle.std.proofs.Common.{ℕ, ◌<◌, [], get_or}
use Rattle.text_base.specs.Names.{texts}
use Rattle.refusal_places.proofs.beginnings.goes_on.Given as goal

abbrev pub invariant-loop-ending : goal.invariant-loop-ending
invariant-loop-ending g l = (k : ℕ) → k < l.ending-index → g.L.Language.goes l.language l.beginning (get_or (texts l.endings) k []) → ⊥
