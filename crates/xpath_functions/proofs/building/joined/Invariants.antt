use Rattle.std.proofs.Common.{◌≡◌, string_bytes, flat_map, take}
use Rattle.std.specs.Str.{chars}
use Rattle.xpath_parser.specs.Conversions.{text_of}
use Rattle.xpath_functions.proofs.building.joined.Given as goal

abbrev pub invariant-loop-value : goal.invariant-loop-value
invariant-loop-value g l = chars (string_bytes l.out) ≡ flat_map (text_of (g.T.Tree.document l.tree)) (take l.value-index l.values)
