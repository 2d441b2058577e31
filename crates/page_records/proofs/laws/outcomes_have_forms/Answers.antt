use Rattle.page_records.proofs.EntryValues.{outcome_form}
use Rattle.page_records.proofs.laws.outcomes_have_forms.Goals as goal

pub returns : goal.returns
returns c = outcome_form
