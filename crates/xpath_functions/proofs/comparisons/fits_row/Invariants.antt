use Rattle.std.proofs.Common.{◌≡◌, drop}
use Rattle.xpath_parser.specs.Conversions as spec
use Rattle.xpath_values.specs.Atoms.{plain_of}
use Rattle.xpath_functions.proofs.comparisons.fits_row.Given as goal

abbrev pub invariant-loop-y : goal.invariant-loop-y
invariant-loop-y g l =
    spec.fits_row (g.T.Tree.document l.tree) l.op (plain_of l.a) (drop l.y-index l.rows) ≡ spec.fits_row (g.T.Tree.document l.tree) l.op (plain_of l.a) l.rows
