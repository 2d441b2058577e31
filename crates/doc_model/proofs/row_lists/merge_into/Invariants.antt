use Rattle.std.proofs.Common.{length, ◌-◌, ◌≤◌, drop, ◌+◌}
use Rattle.doc_model.proofs.Runs.{Merged}
use Rattle.doc_model.proofs.row_lists.merge_into.Given as goal

abbrev pub invariant-loop-i : goal.invariant-loop-i
invariant-loop-i l = (l.i ≤ length l.a) × (l.j ≤ length l.b) × Merged l.a l.b l.out.items (drop l.i l.a) (drop l.j l.b)

abbrev pub decreases-loop-i : goal.decreases-loop-i
decreases-loop-i l = (length l.a - l.i) + (length l.b - l.j)
