use Rattle.std.proofs.Common.{◌≡◌, ◌+◌, ◌-◌, ◌≤◌}
use Rattle.css_selectors.specs.WellMade.{most_number}
use Rattle.css_parser.specs.Nth.{size}
use Rattle.css_parser.proofs.nth.size.Given as goal

abbrev pub invariant-loop-at : goal.invariant-loop-at
invariant-loop-at l = record {
  order : l.fn.from ≤ l.at;
  within : l.at ≤ l.to;
  so_far : l.value ≡ size l.s l.fn.from l.at;
  capped : l.value ≤ 1 + most_number;
}

abbrev pub decreases-loop-at : goal.decreases-loop-at
decreases-loop-at l = l.to - l.at
