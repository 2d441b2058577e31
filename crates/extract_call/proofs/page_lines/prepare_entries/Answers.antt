use Rattle.test_registry.specs.View.{known}
use Rattle.extract_call.proofs.Tasks.{task_more, asks_more}
use Rattle.extract_call.proofs.page_lines.prepare_entries.Goals as goal

pub loop-entry-preserved : goal.loop-entry-preserved
loop-entry-preserved g c = record {
  tasks = task_more (known c.args.tests.now) c.args.entries.now c.loop-entry.ready.items _ c.loop-entry.entry-index c.entry-item.result _
      c.loop-entry.invariant.tasks c.loop-entry-test.true c.entry-item.is c.in_ok-prepare_entry.ensures.task c.in_ok-push.ensures.items;
  asks = asks_more (known c.args.tests.now) c.loop-entry.ready.items _ _ c.in_ok-push.ensures.items c.loop-entry.invariant.asks c.in_ok-prepare_entry.ensures.asks;
}
