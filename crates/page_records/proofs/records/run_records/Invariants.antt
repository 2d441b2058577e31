use Rattle.std.proofs.Common.{◌≡◌, ◌+◌, take}
use Rattle.std.specs.Prelude.{sum_by}
use Rattle.page_records.specs.Records.{records}
use Rattle.page_records.proofs.SizeLemmas.{row_bytes}
use Rattle.page_records.proofs.records.run_records.Given as goal

abbrev pub invariant-loop-row : goal.invariant-loop-row
invariant-loop-row g l = record {
  records : l.records.items ≡ records (g.S.Tree.document l.source) l.fields (take l.row-index l.rows);
  left : l.left + sum_by (row_bytes (g.S.Tree.document l.source) l.fields) (take l.row-index l.rows) ≡ l.most;
}
