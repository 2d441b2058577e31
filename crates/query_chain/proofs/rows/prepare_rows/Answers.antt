use Rattle.test_registry.specs.View.{known}
use Rattle.query_chain.proofs.Rowing.{readable_rows, asks_rows, row_steps}
use Rattle.query_chain.proofs.rows.prepare_rows.Goals as goal

pub prepare_all-requires : goal.prepare_all-requires
prepare_all-requires g c = readable_rows (known c.args.tests.now) c.args.steps.now c.requires

pub returns-in-Ok-clause-asks : goal.returns-in-Ok-clause-asks
returns-in-Ok-clause-asks g c = asks_rows (known c.args.tests.now) c.args.steps.now _ c.requires c.in-Ok.ensures.does

pub invariant_of-result : goal.invariant_of-result
invariant_of-result g c = row_steps (known c.args.tests.now) c.args.steps.now c.in-Ok.ready.items c.requires c.in-Ok.ensures.does
