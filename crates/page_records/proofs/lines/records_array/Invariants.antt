use Rattle.std.proofs.Common.{◌≡◌, take, map}
use Rattle.serde_json.specs.View.{view}
use Rattle.page_records.specs.Lines.{record_data}
use Rattle.page_records.proofs.lines.records_array.Given as goal

abbrev pub invariant-loop-record : goal.invariant-loop-record
invariant-loop-record l = map view l.items.items ≡ map (record_data l.fields) (take l.record-index l.records)
