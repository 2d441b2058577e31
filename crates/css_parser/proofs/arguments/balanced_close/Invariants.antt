use Rattle.std.proofs.Common.{◌+◌, ◌-◌, ◌≤◌, length}
use Rattle.css_parser.specs.inner.Reading.{IsOpen}
use Rattle.css_parser.proofs.arguments.balanced_close.Given as goal

abbrev pub invariant-loop-at : goal.invariant-loop-at
invariant-loop-at l = record {
  order : l.fn.from ≤ l.at;
  within : l.at ≤ length l.tokens;
  inside : IsOpen l.tokens l.fn.from l.at l.depth;
  shallow : l.depth + l.fn.from ≤ l.at;
}

abbrev pub decreases-loop-at : goal.decreases-loop-at
decreases-loop-at l = length l.tokens - l.at
