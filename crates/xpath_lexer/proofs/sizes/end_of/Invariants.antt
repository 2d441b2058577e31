use Rattle.std.proofs.Common.{◌≡◌, ◌-◌, ◌≤◌, length}
use Rattle.text_base.specs.Text.{run_end}
use Rattle.xpath_lexer.specs.inner.Sizes.{has}
use Rattle.xpath_lexer.proofs.sizes.end_of.Given as goal

abbrev pub invariant-loop-at : goal.invariant-loop-at
invariant-loop-at l = record {
  order : l.fn.from ≤ l.at;
  within : l.at ≤ length l.text;
  same : run_end (has l.run) l.text l.at ≡ run_end (has l.run) l.text l.fn.from;
}

abbrev pub decreases-loop-at : goal.decreases-loop-at
decreases-loop-at l = length l.text - l.at
