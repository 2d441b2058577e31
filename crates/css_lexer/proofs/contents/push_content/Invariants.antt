use Rattle.std.proofs.Common.{ℕ, List, ◌-◌, ◌≤◌, length}
use Rattle.std.specs.String.{string_bytes}
use Rattle.text_base.specs.Text.{IsPlace}
use Rattle.css_lexer.specs.inner.Pushing.{Pushes}
use Rattle.css_lexer.proofs.contents.push_content.Given as goal

abbrev pub invariant-loop-n : goal.invariant-loop-n
invariant-loop-n l = record {
  order : l.fn.from ≤ l.at;
  within : l.at ≤ length l.text;
  place : IsPlace l.text l.at;
  comes : (end : ℕ) (new : List ℕ) → Pushes l.content l.text l.at (string_bytes l.out) end new → Pushes l.content l.text l.fn.from (string_bytes l.fn.out) end new;
}

abbrev pub decreases-loop-n : goal.decreases-loop-n
decreases-loop-n l = length l.text - l.at
