use Rattle.extract_call.proofs.top.extract.Goals as goal

pub returns-clause-run : goal.returns-clause-run
returns-clause-run g c = rw c.new.ensures at c.extract_with.ensures.run
