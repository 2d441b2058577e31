use Rattle.std.proofs.Common.{◌≡◌, ℕ, ◌-◌, ◌≤◌, ◌<◌, true, length, get_or}
use Rattle.text_base.specs.Text.{is_digit, run_end}
use Rattle.css_parser.proofs.nth.past_digits.Given as goal

abbrev pub invariant-loop-at : goal.invariant-loop-at
invariant-loop-at l = record {
  order : l.fn.from ≤ l.at;
  within : l.at ≤ length l.s;
  same : run_end is_digit l.s l.at ≡ run_end is_digit l.s l.fn.from;
  digits : (k : ℕ) → l.fn.from ≤ k → k < l.at → is_digit (get_or l.s k 0) ≡ true;
}

abbrev pub decreases-loop-at : goal.decreases-loop-at
decreases-loop-at l = length l.s - l.at
