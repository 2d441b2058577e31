use Rattle.std.proofs.Common.{◌≡◌, take}
use Rattle.std.specs.Prelude.{true}
use Rattle.std.specs.List.{list_all}
use Rattle.query_script.specs.Names.{is_test_byte}
use Rattle.query_script.proofs.names.all_test.Given as goal

abbrev pub invariant-loop-byte : goal.invariant-loop-byte
invariant-loop-byte l = list_all is_test_byte (take l.byte-index l.text) ≡ true
