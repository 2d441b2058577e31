use Rattle.std.proofs.Common.{◌≡◌, drop}
use Rattle.char_refs.specs.Tables.{char_in, pairs}
use Rattle.char_refs.proofs.tables.char_in.Given as goal

abbrev pub invariant-loop-entry : goal.invariant-loop-entry
invariant-loop-entry l = char_in (pairs (drop l.entry-index l.entries)) l.name ≡ char_in (pairs l.entries) l.name
