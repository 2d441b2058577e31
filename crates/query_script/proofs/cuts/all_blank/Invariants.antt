use Rattle.std.proofs.Common.{◌≡◌, take}
use Rattle.std.specs.Prelude.{true}
use Rattle.std.specs.List.{list_all}
use Rattle.query_script.specs.Cuts.{is_blank}
use Rattle.query_script.proofs.cuts.all_blank.Given as goal

abbrev pub invariant-loop-byte : goal.invariant-loop-byte
invariant-loop-byte l = list_all is_blank (take l.byte-index l.fn.text) ≡ true
