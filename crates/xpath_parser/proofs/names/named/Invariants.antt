use Rattle.std.specs.Prelude.{◌≡◌, drop, map}
use Rattle.text_base.specs.Names.{named_in}
use Rattle.xpath_parser.specs.inner.Names.{entry}
use Rattle.xpath_parser.proofs.names.named.Given as goal

abbrev pub invariant-loop-row : goal.invariant-loop-row
invariant-loop-row g l = named_in (map entry (drop l.row-index l.table)) l.name ≡ named_in (map entry l.table) l.name
