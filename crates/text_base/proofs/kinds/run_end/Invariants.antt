use Rattle.std.proofs.Common.{◌≡◌, ◌-◌, ◌≤◌, length}
use Rattle.text_base.specs.Text.{run_end}
use Rattle.text_base.proofs.kinds.run_end.Given as goal

abbrev pub invariant-loop-at : goal.invariant-loop-at
invariant-loop-at g l = record {
  order : l.fn.from ≤ l.at;
  within : l.at ≤ length l.text;
  same : run_end (g.K.ByteKind.test l.kind) l.text l.at ≡ run_end (g.K.ByteKind.test l.kind) l.text l.fn.from;
}

abbrev pub decreases-loop-at : goal.decreases-loop-at
decreases-loop-at g l = length l.text - l.at
