use Rattle.std.proofs.Common.{arith}
use Rattle.test_registry.specs.View.{known}
use Rattle.page_records.proofs.RowLemmas.{rowing_next, row_refused, all_rows}
use Rattle.page_records.proofs.rows.row_steps.Goals as goal

pub returns-in-Refused : goal.returns-in-Refused
returns-in-Refused g c =
    row_refused (known c.args.tests.now) c.args.dialect c.args.written.now c.loop-one.one-index c.one-item.result c.loop-one.kept.items c.in-Refused.why
    c.one-item.is c.loop-one-test.true c.loop-one.invariant (rw c.in-Refused.is at c.in_ok-step.ensures)

pub loop-one-preserved : goal.loop-one-preserved
loop-one-preserved g c =
    rw c.in_ok-push-in-Kept.ensures.items (rowing_next (known c.args.tests.now) c.args.dialect c.args.written.now c.loop-one.one-index c.one-item.result c.loop-one.kept.items c.in-Kept.step
    c.one-item.is c.loop-one-test.true c.loop-one.invariant (rw c.in-Kept.is at c.in_ok-step.ensures))

pub returns : goal.returns
returns g c = (all_rows (known c.args.tests.now) c.args.dialect c.args.written.now c.loop-one.one-index c.loop-one.kept.items (omega arith) c.loop-one.invariant, c.loop-one.invariant.queries)
