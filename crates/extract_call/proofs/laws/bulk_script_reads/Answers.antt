use Rattle.extract_call.proofs.BulkFields.{bulk_reads}
use Rattle.extract_call.proofs.laws.bulk_script_reads.Goals as goal

pub returns : goal.returns
returns c = bulk_reads c.laws_below.ensures
