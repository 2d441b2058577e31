use Rattle.std.proofs.Common.{◌≡◌, ◌++◌, ◌≤◌, length, map, take, string_bytes}
use Rattle.std.specs.Prelude.{reverse}
use Rattle.refusal_places.specs.inner.Brackets.{byte_of}
use Rattle.refusal_places.proofs.brackets.Brackets.push_closing.Given as goal

abbrev pub invariant-loop-left : goal.invariant-loop-left
invariant-loop-left l = record {
  within : l.left ≤ length l.open;
  kept : string_bytes l.out ++ map byte_of (reverse (take l.left l.open)) ≡ string_bytes l.fn.out ++ map byte_of (reverse l.open);
}

abbrev pub decreases-loop-left : goal.decreases-loop-left
decreases-loop-left l = l.left
