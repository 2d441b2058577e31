use Rattle.why_call.proofs.Plans.{same_reason}
use Rattle.why_call.proofs.laws.same_reason.Goals as goal

pub returns : goal.returns
returns c = same_reason c.laws_below.ensures
