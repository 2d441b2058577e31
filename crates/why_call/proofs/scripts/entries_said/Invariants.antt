use Rattle.std.proofs.Common.{◌≡◌, take, map, string_bytes}
use Rattle.why_call.specs.Scripts.{entries_said}
use Rattle.why_call.proofs.scripts.entries_said.Given as goal

abbrev pub invariant-loop-at : goal.invariant-loop-at
invariant-loop-at l = string_bytes l.out ≡ entries_said 1 (take l.at (map (λ p. p.now) l.pieces)) (take l.at l.entries)
