use Rattle.query_script.proofs.Reasons.{of_field}
use Rattle.query_script.proofs.laws.reasons_of_fields.Goals as goal

pub returns : goal.returns
returns c = of_field
