use Rattle.std.proofs.Common.{◌≡◌, take}
use Rattle.std.specs.Prelude.{min}
use Rattle.char_refs.specs.References.{number}
use Rattle.char_refs.proofs.references.capped_number.Given as goal

abbrev pub invariant-loop-byte : goal.invariant-loop-byte
invariant-loop-byte l = l.value ≡ min 0x110000 (number l.base (take l.byte-index l.digits))
