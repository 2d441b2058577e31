use Rattle.std.proofs.Common.{◌≡◌, take, map, zip}
use Rattle.serde_json.specs.View.{view}
use Rattle.page_records.proofs.EntryLemmas.{pair_data}
use Rattle.page_records.proofs.lines.entries_array.Given as goal

abbrev pub invariant-loop-i : goal.invariant-loop-i
invariant-loop-i l = map view l.items.items ≡ map pair_data (take l.i (zip l.entries l.values))
