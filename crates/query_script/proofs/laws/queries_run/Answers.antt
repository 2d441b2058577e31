use Rattle.query_script.proofs.OrderedLemmas.{script_in_order}
use Rattle.query_script.proofs.StoredLemmas.{script_stored}
use Rattle.query_script.proofs.laws.queries_run.Goals as goal

pub returns-clause-run : goal.returns-clause-run
returns-clause-run c = script_in_order

pub returns-clause-stored : goal.returns-clause-stored
returns-clause-stored c = script_stored
