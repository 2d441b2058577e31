use Rattle.std.specs.Prelude.{◌≡◌, drop}
use Rattle.std.specs.List.{list_any}
use Rattle.markup_out.specs.Escapes.{is_mark}
use Rattle.markup_out.proofs.escapes.has_mark.Given as goal

abbrev pub invariant-loop-b : goal.invariant-loop-b
invariant-loop-b l = list_any is_mark (drop l.b-index l.text) ≡ list_any is_mark l.text
