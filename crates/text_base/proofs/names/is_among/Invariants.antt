use Rattle.std.specs.Prelude.{◌≡◌, drop}
use Rattle.text_base.specs.Names.{texts}
use Rattle.text_base.specs.Strings.{is_among}
use Rattle.text_base.proofs.names.is_among.Given as goal

abbrev pub invariant-loop-entry : goal.invariant-loop-entry
invariant-loop-entry l = is_among l.name (texts (drop l.entry-index l.names)) ≡ is_among l.name (texts l.names)
