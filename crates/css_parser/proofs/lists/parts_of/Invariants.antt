use Rattle.std.proofs.Common.{◌≡◌, ◌-◌, ◌≤◌, length, take, map}
use Rattle.css_parser.specs.Lists.{part_of}
use Rattle.css_parser.proofs.lists.parts_of.Given as goal

abbrev pub invariant-loop-at : goal.invariant-loop-at
invariant-loop-at l = record {
  within : l.at ≤ length l.compounds;
  so_far : l.parts ≡ map part_of (take l.at l.compounds);
}

abbrev pub decreases-loop-at : goal.decreases-loop-at
decreases-loop-at l = length l.compounds - l.at
