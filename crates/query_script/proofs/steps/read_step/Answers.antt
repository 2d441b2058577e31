use Rattle.query_script.proofs.StepTexts.{no_call}
use Rattle.query_script.proofs.steps.read_step.Goals as goal

pub returns-in_default : goal.returns-in_default
returns-in_default c = no_call c.args.part.now c.in_default.ensures
