use Rattle.test_registry.specs.View.{known}
use Rattle.extract_call.proofs.Plans.{of_bulk}
use Rattle.extract_call.proofs.top.write_bulk.Goals as goal

pub returns-clause-run : goal.returns-clause-run
returns-clause-run g c = of_bulk c.laws_below.ensures (known c.args.tests.now) c.args.n c.bulk_answer.result _ c.bulk_answer.ensures c.write_alone.ensures.run
