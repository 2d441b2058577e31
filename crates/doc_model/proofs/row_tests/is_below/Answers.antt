use Rattle.std.proofs.Common.{sym, ◌∙◌}
use Rattle.std.proofs.lemmas.Bool.{le-ltb}
use Rattle.doc_model.proofs.Below.{small, below_by_end, not_up}
use Rattle.doc_model.proofs.row_tests.is_below.Goals as goal

pub returns-then-x-y : goal.returns-then-x-y
returns-then-x-y g c =
    below_by_end (g.T.Tree.document c.args.tree.now) c.args.x c.end.result c.args.y (g.met.T.Tree.is_document c.args.tree.now) c.end.ensures c.if-x-y.true c.requires.other

pub returns-else-x-y : goal.returns-else-x-y
returns-else-x-y g c =
    le-ltb c.args.x c.args.y c.if-x-y.false ∙ sym (not_up (g.T.Tree.document c.args.tree.now) c.args.x c.args.y (small _ (g.met.T.Tree.is_document c.args.tree.now)) c.if-x-y.false)
