use Rattle.std.proofs.Common.{◌<◌, ◌≤◌, ◌-◌, length}
use Rattle.css_meaning.proofs.SiblingWalks.{NoneTo, is_other}
use Rattle.css_meaning.proofs.siblings.is_only.Given as goal

abbrev pub invariant-loop-y : goal.invariant-loop-y
invariant-loop-y g l = record {
  behind : l.parent < l.y;
  within : l.y ≤ length (g.T.Tree.document l.tree);
  none : NoneTo (is_other (g.T.Tree.document l.tree) l.by_name l.e) l.y;
}

abbrev pub decreases-loop-y : goal.decreases-loop-y
decreases-loop-y g l = l.to - l.y
