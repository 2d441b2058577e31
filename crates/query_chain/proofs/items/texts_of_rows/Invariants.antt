use Rattle.std.proofs.Common.{◌≡◌, ◌+◌, take}
use Rattle.query_chain.specs.Items.{bytes_of}
use Rattle.query_chain.proofs.ItemTexts.{row_texts}
use Rattle.query_chain.proofs.items.texts_of_rows.Given as goal

abbrev pub invariant-loop-x : goal.invariant-loop-x
invariant-loop-x g l = record {
  texts : l.texts.items ≡ row_texts (g.T.Tree.document l.tree) (take l.x-index l.rows);
  left : l.left + bytes_of l.texts.items ≡ l.limit;
}
