use Rattle.std.specs.Prelude.{◌≡◌, drop}
use Rattle.xpath_parser.specs.Faults.{first_fault}
use Rattle.xpath_parser.proofs.faults.first_fault.Given as goal

abbrev pub invariant-loop-at : goal.invariant-loop-at
invariant-loop-at l = first_fault (drop l.at l.terms) ≡ first_fault l.terms
