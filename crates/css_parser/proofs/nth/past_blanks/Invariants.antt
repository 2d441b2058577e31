use Rattle.std.proofs.Common.{◌≡◌, ◌-◌, ◌≤◌, length}
use Rattle.css_parser.specs.Nth.{is_blank}
use Rattle.text_base.specs.Text.{run_end}
use Rattle.css_parser.proofs.nth.past_blanks.Given as goal

abbrev pub invariant-loop-at : goal.invariant-loop-at
invariant-loop-at l = record {
  order : l.fn.from ≤ l.at;
  within : l.at ≤ length l.s;
  same : run_end is_blank l.s l.at ≡ run_end is_blank l.s l.fn.from;
}

abbrev pub decreases-loop-at : goal.decreases-loop-at
decreases-loop-at l = length l.s - l.at
