use Rattle.std.proofs.Common.{drop}
use Rattle.test_registry.specs.View.{known}
use Rattle.page_records.proofs.RowLemmas.{Rowing}
use Rattle.page_records.proofs.rows.row_steps.Given as goal

abbrev pub invariant-loop-one : goal.invariant-loop-one
invariant-loop-one g l = Rowing (known l.fn.tests) l.fn.dialect l.written (drop l.one-index l.written) l.kept.items
