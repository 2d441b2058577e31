use Rattle.std.proofs.Common.{◌≡◌, ◌<◌}
use Rattle.doc_model.specs.Document.{row}
use Rattle.css_meaning.proofs.Earlier.{NoneAfter}
use Rattle.css_meaning.proofs.links.earlier_sibling.Given as goal

abbrev pub invariant-loop-y : goal.invariant-loop-y
invariant-loop-y g l = record {
  over : l.parent ≡ (row (g.T.Tree.document l.tree) l.e).parent;
  less : l.y < l.e;
  none : NoneAfter (g.T.Tree.document l.tree) l.y l.e;
}

abbrev pub decreases-loop-y : goal.decreases-loop-y
decreases-loop-y g l = l.y
