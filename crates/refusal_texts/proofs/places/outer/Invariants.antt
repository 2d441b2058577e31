use Rattle.std.proofs.Common.{◌≡◌, ◌≤◌, ◌-◌, length}
use Rattle.text_base.specs.Text.{run_end}
use Rattle.refusal_texts.specs.Places.{is_inner}
use Rattle.refusal_texts.proofs.places.outer.Given as goal

abbrev pub invariant-loop-at : goal.invariant-loop-at
invariant-loop-at l = record {
  within : l.at ≤ length l.text;
  same : run_end is_inner l.text l.at ≡ run_end is_inner l.text l.place;
}

abbrev pub decreases-loop-at : goal.decreases-loop-at
decreases-loop-at l = length l.bytes - l.at
