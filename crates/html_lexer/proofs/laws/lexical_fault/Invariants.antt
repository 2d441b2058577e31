use Rattle.std.proofs.Common.{◌≡◌, ◌-◌, length}
use Rattle.html_lexer.specs.Lexing.{HasRead}
use Rattle.html_lexer.proofs.laws.lexical_fault.Given as goal

abbrev pub invariant-loop-fault : goal.invariant-loop-fault
invariant-loop-fault l = record {
  same : l.lexer.text ≡ l.text;
  read : HasRead l.lexer;
}

abbrev pub decreases-loop-fault : goal.decreases-loop-fault
decreases-loop-fault l = length l.text - l.lexer.at
