use Rattle.std.proofs.Common.{◌≡◌, ◌≤◌, ◌-◌, length, suc}
use Rattle.css_meaning.proofs.SiblingWalks.{count_to}
use Rattle.css_meaning.proofs.siblings.position.Given as goal

abbrev pub invariant-loop-y : goal.invariant-loop-y
invariant-loop-y g l = record {
  from : l.span.from ≤ l.y;
  within : l.y ≤ length (g.T.Tree.document l.tree);
  small : l.position ≤ l.y;
  found : l.position ≡ suc (count_to (g.T.Tree.document l.tree) l.fn.kind l.e l.y);
}

abbrev pub decreases-loop-y : goal.decreases-loop-y
decreases-loop-y g l = l.span.to - l.y
