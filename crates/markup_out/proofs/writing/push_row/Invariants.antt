use Rattle.std.proofs.Common.{◌<◌, ◌+◌, ◌-◌, ◌*◌, length}
use Rattle.doc_model.specs.Ends.{IsEnd}
use Rattle.markup_out.proofs.OpenRows.{Going}
use Rattle.markup_out.proofs.writing.push_row.Given as goal

abbrev pub invariant-rows : goal.invariant-rows
invariant-rows g l = record {
  inside : l.owner < length (g.T.Tree.document l.tree);
  ends : IsEnd (g.T.Tree.document l.tree) l.owner l.end;
  going : Going l.back (g.T.Tree.document l.tree) l.i l.owner l.y l.fn.out l.out;
}

abbrev pub decreases-rows : goal.decreases-rows
decreases-rows g l = (length (g.T.Tree.document l.tree) + 1) * (length (g.T.Tree.document l.tree) - l.y) + l.owner
