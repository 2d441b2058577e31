use Rattle.std.proofs.Common.{◌≡◌, take, map}
use Rattle.page_records.specs.Records.{entry_outcome}
use Rattle.extract_call.proofs.page_lines.values_of.Given as goal

abbrev pub invariant-loop-one : goal.invariant-loop-one
invariant-loop-one g l = l.values.items ≡ map (entry_outcome (g.S.Tree.document l.source)) (take l.one-index l.ready)
