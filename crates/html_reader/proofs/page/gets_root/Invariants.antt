use Rattle.std.specs.Prelude.{◌-◌, length}
use Rattle.html_reader.proofs.FragmentLemmas.{IsLooking}
use Rattle.html_reader.proofs.page.gets_root.Given as goal

abbrev pub invariant-loop-token : goal.invariant-loop-token
invariant-loop-token l = IsLooking l.text l.lexer

abbrev pub decreases-loop-token : goal.decreases-loop-token
decreases-loop-token l = length l.text - l.lexer.at
