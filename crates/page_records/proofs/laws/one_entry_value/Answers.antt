use Rattle.page_records.proofs.EntryValues as values
use Rattle.page_records.proofs.laws.one_entry_value.Goals as goal

pub returns-clause-one : goal.returns-clause-one
returns-clause-one c = values.one_entry_value

pub returns-clause-some : goal.returns-clause-some
returns-clause-some c = values.an_entry_value
