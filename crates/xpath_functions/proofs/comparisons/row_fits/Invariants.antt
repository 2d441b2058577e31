use Rattle.std.proofs.Common.{◌≡◌, drop}
use Rattle.xpath_parser.specs.Conversions as spec
use Rattle.xpath_values.specs.Atoms.{plain_of}
use Rattle.xpath_functions.proofs.comparisons.row_fits.Given as goal

abbrev pub invariant-loop-x : goal.invariant-loop-x
invariant-loop-x g l =
    spec.row_fits (g.T.Tree.document l.tree) l.op (drop l.x-index l.rows) (plain_of l.b) ≡ spec.row_fits (g.T.Tree.document l.tree) l.op l.rows (plain_of l.b)
