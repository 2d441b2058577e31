use Rattle.std.proofs.Common.{◌≡◌, take, map, zip}
use Rattle.std.specs.Prelude.{encode_utf8_all}
use Rattle.serde_json.specs.View.{view}
use Rattle.json_lines.specs.Pages.{field_data}
use Rattle.json_lines.proofs.pages.fields_value.Given as goal

abbrev pub invariant-loop-i : goal.invariant-loop-i
invariant-loop-i l = map view l.items.items ≡ map (λ p. field_data (encode_utf8_all p.0.name) p.1) (take l.i (zip l.fields l.values))
