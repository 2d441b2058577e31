use Rattle.std.proofs.Common.{◌≡◌, ◌-◌, ◌≤◌, length, take}
use Rattle.css_parser.specs.Lists.{tail_of}
use Rattle.css_parser.proofs.lists.tail_of.Given as goal

abbrev pub invariant-loop-at : goal.invariant-loop-at
invariant-loop-at l = record {
  within : l.at ≤ length l.compounds;
  so_far : l.tail ≡ tail_of (take l.at l.compounds);
}

abbrev pub decreases-loop-at : goal.decreases-loop-at
decreases-loop-at l = length l.compounds - l.at
