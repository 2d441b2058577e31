use Rattle.step_index.specs.Siblings.{HasChildren}
use Rattle.step_index.proofs.children.Children.of.Given as goal

abbrev pub invariant-loop-y : goal.invariant-loop-y
invariant-loop-y g l = HasChildren (g.T.Tree.document l.tree) l.children.ranks.items l.children.counts.items l.y
