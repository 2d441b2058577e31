use Rattle.doc_model.proofs.Runs as runs
use Rattle.doc_model.proofs.row_lists.follows.Goals as goal

pub returns : goal.returns
returns c = λ less. runs.follows_last c.args.a.now c.args.b.now (runs.some c.args.a.now c.if-a-eq0.false) (runs.some c.args.b.now c.if-b-eq0.false) (runs.less_is less)
