use Rattle.std.proofs.Common.{◌≡◌, ◌-◌, ◌≤◌, length}
use Rattle.text_base.specs.Text.{find_where}
use Rattle.html_lexer.specs.Names.{closes}
use Rattle.html_lexer.proofs.scans.close_place.Given as goal

abbrev pub invariant-loop-from : goal.invariant-loop-from
invariant-loop-from l = record {
  order : l.fn.from ≤ l.at;
  within : l.at ≤ length l.text;
  same : find_where (closes l.name) l.text l.at ≡ find_where (closes l.name) l.text l.fn.from;
}

abbrev pub decreases-loop-from : goal.decreases-loop-from
decreases-loop-from l = length l.text - l.at
