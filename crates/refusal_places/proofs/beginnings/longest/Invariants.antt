use Rattle.std.proofs.Common.{ℕ, ◌<◌, ◌≤◌, length, take}
use Rattle.std.specs.List.{Any}
use Rattle.text_base.specs.Names.{texts}
use Rattle.text_base.specs.Text.{IsPlace}
use Rattle.refusal_places.proofs.beginnings.longest.Given as goal

abbrev pub invariant-loop-size : goal.invariant-loop-size
invariant-loop-size g l = record {
  within : l.size ≤ length l.text;
  none : (m : ℕ) → IsPlace l.text m → l.size < m → Any (g.L.Language.goes l.language (take m l.text)) (texts l.endings) → ⊥;
}

abbrev pub decreases-loop-size : goal.decreases-loop-size
decreases-loop-size g l = l.size
