use Rattle.std.proofs.Common.{length, ◌-◌}
use Rattle.xpath_lexer.proofs.Fronts.{Front}
use Rattle.xpath_lexer.proofs.tokens.xpath_tokens.Given as goal

abbrev pub invariant-loop-at : goal.invariant-loop-at
invariant-loop-at l = Front l.text l.at l.found

abbrev pub decreases-loop-at : goal.decreases-loop-at
decreases-loop-at l = length l.text - l.at
