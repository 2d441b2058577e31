use Rattle.test_registry.specs.View.{known}
use Rattle.why_call.proofs.Plans.{of_expression}
use Rattle.why_call.proofs.top.write_expression.Goals as goal

pub returns-clause-run : goal.returns-clause-run
returns-clause-run g c = of_expression c.laws_below.ensures (known c.args.tests.now) c.expression_answer.result _ c.write_alone.ensures.run c.args.text.now c.expression_answer.ensures
