use Rattle.std.proofs.Common.{◌≡◌, ◌++◌, take, string_bytes}
use Rattle.why_call.specs.Scripts.{members_said}
use Rattle.why_call.proofs.scripts.push_members.Given as goal

abbrev pub invariant-loop-at : goal.invariant-loop-at
invariant-loop-at l = string_bytes l.out ≡ string_bytes l.fn.out ++ members_said l.n 1 (take l.at l.fields)
