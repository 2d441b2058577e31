use Rattle.query_chain.proofs.steps.give.Goals as goal

pub returns-in-Query-clause-passes : goal.returns-in-Query-clause-passes
returns-in-Query-clause-passes g c = rw c.in-Query.is c.select_items.ensures.passes

pub returns-in-Query-clause-stop : goal.returns-in-Query-clause-stop
returns-in-Query-clause-stop g c = rw c.in-Query.is c.select_items.ensures.stop

pub returns-in-Match-clause-passes : goal.returns-in-Match-clause-passes
returns-in-Match-clause-passes g c = rw c.in-Match.is c.search.ensures.passes

pub returns-in-Match-clause-stop : goal.returns-in-Match-clause-stop
returns-in-Match-clause-stop g c = rw c.in-Match.is c.search.ensures.stop

pub returns-in-Keep-clause-passes : goal.returns-in-Keep-clause-passes
returns-in-Keep-clause-passes g c = rw c.in-Keep.is c.keep.ensures.passes

pub returns-in-Keep-clause-stop : goal.returns-in-Keep-clause-stop
returns-in-Keep-clause-stop g c = rw c.in-Keep.is c.keep.ensures.stop
