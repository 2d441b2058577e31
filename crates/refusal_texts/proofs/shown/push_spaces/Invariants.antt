use Rattle.std.proofs.Common.{◌≡◌, ◌++◌, string_bytes, map}
use Rattle.refusal_texts.specs.Shown.{shown}
use Rattle.refusal_texts.proofs.shown.push_spaces.Given as goal

abbrev pub invariant-loop-c : goal.invariant-loop-c
invariant-loop-c l = string_bytes l.out ≡ string_bytes l.fn.out ++ map (λ c. 32) (map shown l.yielded)
