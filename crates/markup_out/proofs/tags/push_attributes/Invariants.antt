use Rattle.std.proofs.Common.{◌≤◌, ◌<◌, ◌-◌}
use Rattle.markup_out.specs.inner.Adding.{Adds}
use Rattle.markup_out.proofs.AttributeRows.{AreAttributes, attributes_before}
use Rattle.markup_out.proofs.tags.push_attributes.Given as goal

abbrev pub invariant-loop-r : goal.invariant-loop-r
invariant-loop-r g l = record {
  behind : l.x < l.r;
  within : l.r ≤ l.len;
  passed : AreAttributes (g.T.Tree.document l.tree) l.x l.r;
  adds : Adds l.fn.out l.out (attributes_before l.back (g.T.Tree.document l.tree) l.x l.r);
}

abbrev pub decreases-loop-r : goal.decreases-loop-r
decreases-loop-r g l = l.len - l.r
