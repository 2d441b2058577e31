use Rattle.std.proofs.Common.{◌≡◌, ◌-◌, ◌≤◌, length, drop}
use Rattle.css_parser.specs.Refusals.{refusal}
use Rattle.css_parser.proofs.refusals.refusal.Given as goal

abbrev pub invariant-loop-at : goal.invariant-loop-at
invariant-loop-at l = record {
  within : l.at ≤ length l.list;
  same : refusal (drop l.at l.list) ≡ refusal l.list;
}

abbrev pub decreases-loop-at : goal.decreases-loop-at
decreases-loop-at l = length l.list - l.at
