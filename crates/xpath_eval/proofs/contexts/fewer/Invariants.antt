use Rattle.std.proofs.Common.{length, take}
use Rattle.xpath_eval.specs.inner.Contexts.{Covers}
use Rattle.doc_model.specs.RowLists.{AllBelow}
use Rattle.xpath_eval.proofs.contexts.fewer.Given as goal

abbrev pub invariant-loop-x : goal.invariant-loop-x
invariant-loop-x g l =
    let doc = g.T.Tree.document l.tree in record { covers : Covers doc l.axis (take l.x-index l.rows) l.few.items; below : AllBelow (length doc) l.few.items }
