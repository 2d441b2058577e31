use Rattle.std.proofs.Common.{◌≡◌, ◌-◌, ◌≤◌, length, take, map}
use Rattle.css_parser.specs.Lists.{selector_of}
use Rattle.css_parser.proofs.lists.list_of.Given as goal

abbrev pub invariant-loop-at : goal.invariant-loop-at
invariant-loop-at l = record {
  within : l.at ≤ length l.found;
  so_far : l.items ≡ map selector_of (take l.at l.found);
}

abbrev pub decreases-loop-at : goal.decreases-loop-at
decreases-loop-at l = length l.found - l.at
