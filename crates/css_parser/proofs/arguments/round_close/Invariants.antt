use Rattle.std.proofs.Common.{◌≡◌, ◌-◌, ◌≤◌, length}
use Rattle.css_parser.specs.Simples.{round_close}
use Rattle.css_parser.proofs.arguments.round_close.Given as goal

abbrev pub invariant-loop-at : goal.invariant-loop-at
invariant-loop-at l = record {
  order : l.fn.from ≤ l.at;
  within : l.at ≤ length l.tokens;
  same : round_close l.tokens l.at ≡ round_close l.tokens l.fn.from;
}

abbrev pub decreases-loop-at : goal.decreases-loop-at
decreases-loop-at l = length l.tokens - l.at
