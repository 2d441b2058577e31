use Rattle.std.proofs.Common.{◌≡◌, ◌++◌, string_bytes, encode_utf8_all, map}
use Rattle.refusal_texts.specs.Shown.{shown}
use Rattle.refusal_texts.proofs.shown.push_from.Given as goal

abbrev pub invariant-loop-c : goal.invariant-loop-c
invariant-loop-c l = string_bytes l.out ≡ string_bytes l.fn.out ++ encode_utf8_all (map shown l.yielded)
