use Rattle.std.proofs.Common.{◌≡◌, drop}
use Rattle.html_lexer.specs.Names.{is_one_of, texts}
use Rattle.html_lexer.proofs.names.is_one_of.Given as goal

abbrev pub invariant-loop-entry : goal.invariant-loop-entry
invariant-loop-entry l = is_one_of (texts (drop l.entry-index l.names)) l.name ≡ is_one_of (texts l.names) l.name
