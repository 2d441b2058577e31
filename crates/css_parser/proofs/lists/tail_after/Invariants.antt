use Rattle.std.proofs.Common.{◌≡◌, ◌-◌, ◌≤◌, length, take}
use Rattle.std.specs.List.{fold}
use Rattle.css_parser.specs.Lists.{tail_by}
use Rattle.css_parser.proofs.lists.tail_after.Given as goal

abbrev pub invariant-loop-at : goal.invariant-loop-at
invariant-loop-at l = record {
  within : l.at ≤ length l.forms;
  so_far : l.tail ≡ fold tail_by l.fn.old (take l.at l.forms);
}

abbrev pub decreases-loop-at : goal.decreases-loop-at
decreases-loop-at l = length l.forms - l.at
