use Rattle.std.proofs.Common.{◌≡◌, take}
use Rattle.serde_json.specs.View.{members_view}
use Rattle.page_records.specs.Lines.{named_values, members_data}
use Rattle.page_records.proofs.Members.{in_order}
use Rattle.page_records.proofs.lines.record_object.Given as goal

abbrev pub invariant-loop-i : goal.invariant-loop-i
invariant-loop-i l = members_view l.members.entries ≡ members_data (in_order (take l.i (named_values l.fields l.values)))
