use Rattle.std.proofs.Common.{◌≡◌, ◌+◌, map, take}
use Rattle.std.specs.Prelude.{sum_by}
use Rattle.query_chain.specs.Chains.{outcome}
use Rattle.page_records.proofs.SizeLemmas.{task_bytes}
use Rattle.page_records.proofs.records.run_record.Given as goal

abbrev pub invariant-loop-field : goal.invariant-loop-field
invariant-loop-field g l = record {
  values : l.values.items ≡ map (outcome (g.S.Tree.document l.source) l.row) (take l.field-index l.fields);
  left : l.rest + sum_by (task_bytes (g.S.Tree.document l.source) l.row) (take l.field-index l.fields) ≡ l.left;
}
