use Rattle.extract_call.proofs.OutputLemmas.{part_of_nothing}
use Rattle.extract_call.proofs.writing.write_line.Goals as goal

pub returns-in-Err-clause-err : goal.returns-in-Err-clause-err
returns-in-Err-clause-err g c = part_of_nothing c.laws_below.ensures.takings (g.W.Sink.taken c.args.sink.now) _
