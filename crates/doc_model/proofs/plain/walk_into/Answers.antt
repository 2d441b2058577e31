use Rattle.doc_model.proofs.Runs.{on_err}
use Rattle.doc_model.proofs.WalkSteps.{empty_front}
use Rattle.doc_model.proofs.plain.walk_into.Goals as goal

pub returns-in-Err-clause-err : goal.returns-in-Err-clause-err
returns-in-Err-clause-err g c = on_err c.across_into-walked.result (empty_front c.clear.new.self.items _ c.clear.ensures.items)
