use Rattle.std.proofs.Common.{◌≡◌, take}
use Rattle.xpath_functions.specs.inner.Extremes.{extreme_of}
use Rattle.xpath_functions.proofs.comparisons.extreme_of.Given as goal

abbrev pub invariant-loop-x : goal.invariant-loop-x
invariant-loop-x g l = l.found ≡ extreme_of (g.T.Tree.document l.tree) l.least (take l.x-index l.rows)
