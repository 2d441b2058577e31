use Rattle.extract_call.proofs.Plans.{one_plan}
use Rattle.extract_call.proofs.PlanExists.{some_plan}
use Rattle.extract_call.proofs.laws.the_plan.Goals as goal

pub returns-clause-one : goal.returns-clause-one
returns-clause-one c = one_plan c.laws_below.ensures

pub returns-clause-some : goal.returns-clause-some
returns-clause-some c = some_plan c.laws_below.ensures
