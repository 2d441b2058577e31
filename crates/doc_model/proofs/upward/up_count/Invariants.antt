use Rattle.std.proofs.Common.{◌≡◌, ◌≤◌, ◌-◌, ◌+◌, length}
use Rattle.std.specs.Prelude.{filter}
use Rattle.std.specs.List.{range_with_len}
use Rattle.doc_model.specs.inner.Walks.{chosen}
use Rattle.doc_model.proofs.WalkSteps.{IsOver}
use Rattle.doc_model.proofs.upward.up_count.Given as goal

abbrev pub invariant-loop-y : goal.invariant-loop-y
invariant-loop-y g l = record {
  low : l.y ≤ l.x;
  over : IsOver (g.T.Tree.document l.tree) l.y l.x;
  small : l.count + l.y ≤ l.x + 1;
  found : l.count ≡ length (filter (chosen (g.T.Tree.document l.tree) l.axis l.x l.test) (range_with_len l.y (length (g.T.Tree.document l.tree) - l.y)));
}

abbrev pub decreases-loop-y : goal.decreases-loop-y
decreases-loop-y g l = l.y
