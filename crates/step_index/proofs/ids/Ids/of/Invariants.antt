use Rattle.step_index.specs.inner.Tables.{HasIds}
use Rattle.step_index.proofs.ids.Ids.of.Given as goal

abbrev pub invariant-loop-z : goal.invariant-loop-z
invariant-loop-z g l = HasIds (g.T.Tree.document l.tree) l.ids l.z
