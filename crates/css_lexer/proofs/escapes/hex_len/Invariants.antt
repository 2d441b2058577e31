use Rattle.std.proofs.Common.{◌≡◌, ◌+◌, ◌-◌, ◌≤◌, length}
use Rattle.css_lexer.specs.Escapes.{is_hex}
use Rattle.text_base.specs.Text.{run_end}
use Rattle.css_lexer.proofs.escapes.hex_len.Given as goal

abbrev pub invariant-loop-n : goal.invariant-loop-n
invariant-loop-n l = record {
  short : l.n ≤ 6;
  fits : l.at + 1 + l.n ≤ length l.text;
  same : run_end is_hex l.text (l.at + 1 + l.n) ≡ run_end is_hex l.text (l.at + 1);
}

abbrev pub decreases-loop-n : goal.decreases-loop-n
decreases-loop-n l = 6 - l.n
