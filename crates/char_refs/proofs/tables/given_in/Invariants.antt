use Rattle.std.proofs.Common.{◌≡◌, drop}
use Rattle.char_refs.specs.Tables.{given_in}
use Rattle.char_refs.proofs.tables.given_in.Given as goal

abbrev pub invariant-loop-entry : goal.invariant-loop-entry
invariant-loop-entry l = given_in (drop l.entry-index l.entries) l.number ≡ given_in l.entries l.number
