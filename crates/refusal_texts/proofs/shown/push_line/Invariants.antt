use Rattle.std.proofs.Common.{◌≡◌, ◌++◌, string_bytes, encode_utf8_all, map, false}
use Rattle.std.specs.List.{AllByRecursion}
use Rattle.refusal_texts.specs.Places.{is_newline}
use Rattle.refusal_texts.specs.Shown.{shown}
use Rattle.refusal_texts.proofs.shown.push_line.Given as goal

abbrev pub invariant-loop-c : goal.invariant-loop-c
invariant-loop-c l = record {
  line : AllByRecursion (λ c. is_newline c ≡ false) l.yielded;
  written : string_bytes l.out ≡ string_bytes l.fn.out ++ encode_utf8_all (map shown l.yielded);
}
