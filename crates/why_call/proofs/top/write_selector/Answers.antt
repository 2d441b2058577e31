use Rattle.test_registry.specs.View.{known}
use Rattle.why_call.proofs.Plans.{of_selector}
use Rattle.why_call.proofs.top.write_selector.Goals as goal

pub returns-clause-run : goal.returns-clause-run
returns-clause-run g c = of_selector c.laws_below.ensures (known c.args.tests.now) c.selector_answer.result _ c.write_alone.ensures.run c.args.dialect c.args.selector.now c.selector_answer.ensures
