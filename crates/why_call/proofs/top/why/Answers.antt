use Rattle.why_call.proofs.top.why.Goals as goal

pub returns-clause-run : goal.returns-clause-run
returns-clause-run g c = rw (← c.read.ensures) c.write_form.ensures.run
