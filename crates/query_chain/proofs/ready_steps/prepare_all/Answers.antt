use Rattle.test_registry.specs.View.{known}
use Rattle.query_chain.proofs.Readying.{actions_more, usable_more, all_actions}
use Rattle.query_chain.proofs.ready_steps.prepare_all.Goals as goal

pub loop-step-preserved : goal.loop-step-preserved
loop-step-preserved g c = record {
  does = actions_more (known c.args.tests.now) c.args.steps.now c.loop-step.step-index c.loop-step.ready.items _ c.step-item.result c.in_ok-prepare_step.field-0 c.loop-step-test.true c.step-item.is
      c.in_ok-push.ensures.items c.loop-step.invariant.does c.in_ok-prepare_step.ensures.does;
  usable = usable_more c.loop-step.ready.items _ c.in_ok-prepare_step.field-0 c.in_ok-push.ensures.items c.loop-step.invariant.usable c.in_ok-prepare_step.ensures.usable;
}

pub returns-clause-does : goal.returns-clause-does
returns-clause-does g c = all_actions (known c.args.tests.now) c.args.steps.now c.loop-step.step-index _ c.loop-step-test.false c.loop-step.invariant.does
