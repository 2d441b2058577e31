use Rattle.page_records.proofs.PlainScripts.{reads_as_fields, refused_as_fields}
use Rattle.page_records.proofs.laws.reads_as_fields.Goals as goal

pub returns-clause-fields : goal.returns-clause-fields
returns-clause-fields c = reads_as_fields

pub returns-clause-fault : goal.returns-clause-fault
returns-clause-fault c = refused_as_fields
