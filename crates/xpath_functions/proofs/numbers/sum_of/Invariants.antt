use Rattle.std.proofs.Common.{◌≡◌, take}
use Rattle.xpath_parser.specs.Functions.{sum_of}
use Rattle.xpath_functions.proofs.numbers.sum_of.Given as goal

abbrev pub invariant-loop-x : goal.invariant-loop-x
invariant-loop-x g l = l.total ≡ sum_of (g.T.Tree.document l.tree) (take l.x-index l.rows)
