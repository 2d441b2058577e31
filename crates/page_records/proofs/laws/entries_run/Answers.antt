use Rattle.page_records.proofs.EntryOrder.{script_ordered, script_stored}
use Rattle.page_records.proofs.NameLemmas.{script_differs}
use Rattle.page_records.proofs.laws.entries_run.Goals as goal

pub returns-clause-run : goal.returns-clause-run
returns-clause-run c = script_ordered

pub returns-clause-stored : goal.returns-clause-stored
returns-clause-stored c = script_stored

pub returns-clause-named : goal.returns-clause-named
returns-clause-named c = script_differs
