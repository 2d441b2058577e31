use Rattle.std.proofs.Common.{ℕ, ◌-◌, ◌≤◌, length}
use Rattle.text_base.specs.Text.{IsPlace}
use Rattle.css_lexer.specs.Comments.{Comments}
use Rattle.css_lexer.proofs.lexer.past_comments.Given as goal

abbrev pub invariant-loop-from : goal.invariant-loop-from
invariant-loop-from l = record {
  order : l.from ≤ l.at;
  within : l.at ≤ length l.text;
  place : IsPlace l.text l.at;
  comes : (end : ℕ) → Comments l.text l.at end → Comments l.text l.from end;
}

abbrev pub decreases-loop-from : goal.decreases-loop-from
decreases-loop-from l = length l.text - l.at
