use Rattle.std.proofs.Common.{◌≡◌, ◌-◌, ◌++◌, length, drop, false}
use Rattle.std.specs.String.{string_bytes}
use Rattle.text_base.specs.Text.{IsPlace}
use Rattle.text_base.specs.Decoding.{newlines}
use Rattle.text_base.specs.inner.Newlines.{newlines_after}
use Rattle.text_base.proofs.decoding.with_newlines.Given as goal

abbrev pub invariant-loop-from : goal.invariant-loop-from
invariant-loop-from l = record {
  place : IsPlace l.text l.from;
  so_far : string_bytes l.out ++ newlines_after false (drop l.from l.text) ≡ newlines l.text;
}

abbrev pub decreases-loop-from : goal.decreases-loop-from
decreases-loop-from l = length l.text - l.from
