use Rattle.std.proofs.Common.{◌≡◌, false, take, map}
use Rattle.std.specs.List.{list_any}
use Rattle.std.specs.Str.{bytes_eq}
use Rattle.page_records.proofs.bodies.has_name.Given as goal

abbrev pub invariant-loop-field : goal.invariant-loop-field
invariant-loop-field l = list_any (bytes_eq l.name) (map (λ f. f.name) (take l.field-index l.fields)) ≡ false
