use Rattle.std.proofs.Common.{map, take}
use Rattle.std.specs.Prelude.{All}
use Rattle.test_registry.specs.View.{known}
use Rattle.query_chain.specs.Tasks.{AreActions}
use Rattle.query_chain.specs.inner.Steps.{action_of, IsUsable}
use Rattle.query_chain.proofs.ready_steps.prepare_all.Given as goal

abbrev pub invariant-loop-step : goal.invariant-loop-step
invariant-loop-step g l = record {
  does : AreActions (known l.tests) (take l.step-index l.steps) (map action_of l.ready.items);
  usable : All IsUsable l.ready.items;
}
