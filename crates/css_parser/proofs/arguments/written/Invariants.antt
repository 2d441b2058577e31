use Rattle.std.proofs.Common.{◌≡◌, ◌-◌, ◌≤◌}
use Rattle.css_parser.specs.Simples.{written_up_to}
use Rattle.css_parser.proofs.arguments.written.Given as goal

abbrev pub invariant-loop-at : goal.invariant-loop-at
invariant-loop-at l = record {
  order : l.fn.from ≤ l.at;
  within : l.at ≤ l.to;
  so_far : l.out.items ≡ written_up_to l.text l.tokens l.fn.from l.at;
}

abbrev pub decreases-loop-at : goal.decreases-loop-at
decreases-loop-at l = l.to - l.at
