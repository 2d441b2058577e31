use Rattle.why_call.proofs.Plans.{one_plan}
use Rattle.why_call.proofs.laws.one_plan.Goals as goal

pub returns : goal.returns
returns c = one_plan c.laws_below.ensures
