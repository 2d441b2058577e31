use Rattle.std.proofs.Common.{sym, ◌∙◌}
use Rattle.doc_model.proofs.AxisWalks as walks
use Rattle.doc_model.proofs.walk_bounds.following_sibling_walk.Goals as goal

pub returns : goal.returns
returns g c =
    walks.following_sibling_walk (g.T.Tree.document c.args.tree.now) c.args.x c.end.result c.parent.result c.end-2.result (g.met.T.Tree.is_document c.args.tree.now)
    (walks.positive c.args.x c.if-x-eq0.false) (sym c.is_attribute.ensures ∙ c.if-is_attribute.false) c.end.ensures c.parent.ensures c.end-2.ensures
