use Rattle.std.specs.Prelude.{◌≡◌, ◌≤◌, ◌+◌, drop}
use Rattle.xpath_parser.specs.Faults.{commas}
use Rattle.xpath_parser.proofs.faults.commas.Given as goal

abbrev pub invariant-loop-term : goal.invariant-loop-term
invariant-loop-term l = (l.depth ≤ l.term-index) × (l.count ≤ l.term-index) × (l.count + commas l.depth (drop l.term-index l.terms) ≡ commas 0 l.terms)
