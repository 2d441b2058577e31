use Rattle.std.proofs.Common.{◌≡◌, ◌-◌, length}
use Rattle.css_translate.specs.inner.Runs.{InApostrophes}
use Rattle.css_translate.proofs.literals.apostrophes_end.Given as goal

abbrev pub invariant-loop-at : goal.invariant-loop-at
invariant-loop-at l = InApostrophes l.text l.from l.at × (l.bytes ≡ l.text)

abbrev pub decreases-loop-at : goal.decreases-loop-at
decreases-loop-at l = length l.bytes - l.at
