use Rattle.std.proofs.Common.{◌≡◌, ◌-◌, ◌++◌, length, drop}
use Rattle.std.specs.String.{string_bytes}
use Rattle.text_base.specs.Text.{IsPlace}
use Rattle.char_refs.specs.References.{decoded, decoded_past}
use Rattle.char_refs.proofs.references.decode_refs.Given as goal

abbrev pub invariant-loop-from : goal.invariant-loop-from
invariant-loop-from l = record {
  place : IsPlace l.raw l.from;
  so_far : string_bytes l.out ++ decoded_past (drop l.from l.raw) 0 ≡ decoded l.raw;
}

abbrev pub decreases-loop-from : goal.decreases-loop-from
decreases-loop-from l = length l.raw - l.from
