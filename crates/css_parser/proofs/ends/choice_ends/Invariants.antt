use Rattle.std.proofs.Common.{◌≡◌, ◌+◌, length}
use Rattle.css_parser.specs.inner.Reading.{IsTable}
use Rattle.css_parser.proofs.ends.choice_ends.Given as goal

abbrev pub invariant-loop-at : goal.invariant-loop-at
invariant-loop-at l = record {
  known : l.at + length l.ends.items ≡ length l.tokens;
  table : IsTable l.text l.tokens l.ends.items;
}

abbrev pub decreases-loop-at : goal.decreases-loop-at
decreases-loop-at l = l.at
