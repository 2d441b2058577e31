use Rattle.test_registry.specs.View.{known}
use Rattle.why_call.proofs.Plans.{of_script}
use Rattle.why_call.proofs.top.write_script.Goals as goal

pub returns-clause-run : goal.returns-clause-run
returns-clause-run g c = of_script c.laws_below.ensures (known c.args.tests.now) c.script_answer.result _ c.write_alone.ensures.run c.args.dialect c.args.text.now c.script_answer.ensures
