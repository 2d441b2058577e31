use Rattle.std.proofs.Common.{◌≡◌, ◌≤◌, ◌+◌, ◌*◌, length}
use Rattle.doc_model.specs.KeptRows.{growing_of}
use Rattle.worked_trees.proofs.steps.build.Given as goal

abbrev pub invariant-loop-step : goal.invariant-loop-step
invariant-loop-step l = record {
  rows : length (growing_of l.grow.kept.rows.items l.grow.kept.unclosed.items).rows ≤ 1 + 3 * l.step-index;
  depth : length (growing_of l.grow.kept.rows.items l.grow.kept.unclosed.items).open_rows ≡ l.depth;
  few : l.depth ≤ l.step-index;
}
