use Rattle.std.proofs.Common.{◌≡◌, ◌-◌, ◌≤◌, length, drop}
use Rattle.css_parser.specs.Refusals.{selector_refusal}
use Rattle.css_parser.proofs.refusals.selector_refusal.Given as goal

abbrev pub invariant-loop-at : goal.invariant-loop-at
invariant-loop-at l = record {
  within : l.at ≤ length l.compounds;
  same : selector_refusal (drop l.at l.compounds) ≡ selector_refusal l.compounds;
}

abbrev pub decreases-loop-at : goal.decreases-loop-at
decreases-loop-at l = length l.compounds - l.at
