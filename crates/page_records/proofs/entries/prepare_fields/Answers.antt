use Rattle.std.proofs.lemmas.List.Elements.{All-push}
use Rattle.test_registry.specs.View.{known}
use Rattle.query_script.specs.Ordered.{IsOrderedOver, KeepsStored}
use Rattle.query_chain.specs.Tasks.{TaskAsks}
use Rattle.page_records.proofs.FieldTasks.{each_at, tasks_more, all_tasks}
use Rattle.page_records.proofs.entries.prepare_fields.Goals as goal

pub prepare_with-requires-clause-ordered : goal.prepare_with-requires-clause-ordered
prepare_with-requires-clause-ordered g c =
    each_at (IsOrderedOver (known c.args.tests.now)) c.args.fields.now c.loop-field.field-index c.field-item.result c.loop-field-test.true c.field-item.is c.requires.ordered

pub prepare_with-requires-clause-stored : goal.prepare_with-requires-clause-stored
prepare_with-requires-clause-stored g c =
    each_at (KeepsStored (known c.args.tests.now)) c.args.fields.now c.loop-field.field-index c.field-item.result c.loop-field-test.true c.field-item.is c.requires.stored

pub loop-field-preserved : goal.loop-field-preserved
loop-field-preserved g c = record {
  tasks = tasks_more (known c.args.tests.now) c.args.fields.now c.loop-field.field-index c.loop-field.ready.items _ c.field-item.result c.in_ok-prepare_with.field-0 c.loop-field-test.true c.field-item.is
      c.in_ok-push.ensures.items c.loop-field.invariant.tasks c.in_ok-prepare_with.ensures.task;
  asks = rw c.in_ok-push.ensures.items (All-push (TaskAsks (known c.args.tests.now)) c.loop-field.ready.items c.in_ok-prepare_with.field-0 c.loop-field.invariant.asks c.in_ok-prepare_with.ensures.asks);
}

pub returns-clause-tasks : goal.returns-clause-tasks
returns-clause-tasks g c = all_tasks (known c.args.tests.now) c.args.fields.now c.loop-field.field-index _ c.loop-field-test.false c.loop-field.invariant.tasks
