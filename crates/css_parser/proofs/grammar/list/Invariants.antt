use Rattle.std.proofs.Common.{◌-◌, ◌≤◌, length}
use Rattle.css_parser.specs.inner.Reading.{IsReadUpTo}
use Rattle.css_parser.proofs.grammar.list.Given as goal

abbrev pub invariant-loop-read : goal.invariant-loop-read
invariant-loop-read l = record {
  within : l.at ≤ length l.tokens;
  reads : IsReadUpTo l.text l.tokens l.found l.at;
}

abbrev pub decreases-loop-read : goal.decreases-loop-read
decreases-loop-read l = length l.tokens - l.at
