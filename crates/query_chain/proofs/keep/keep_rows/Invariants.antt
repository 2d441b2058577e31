use Rattle.std.proofs.Common.{◌≡◌, ◌+◌, take, filter}
use Rattle.query_chain.specs.Items.{bytes_of}
use Rattle.query_chain.specs.inner.Keeping.{row_meets}
use Rattle.query_chain.proofs.ItemTexts.{row_texts}
use Rattle.query_chain.proofs.keep.keep_rows.Given as goal

abbrev pub invariant-loop-x : goal.invariant-loop-x
invariant-loop-x g l = record {
  rows : l.kept.items ≡ filter (row_meets (g.T.Tree.document l.tree) l.kind l.other) (take l.x-index l.rows);
  left : l.left + bytes_of (row_texts (g.T.Tree.document l.tree) (take l.x-index l.rows)) ≡ l.limit;
}
