use Rattle.std.proofs.Common.{sym, ◌∙◌}
use Rattle.doc_model.proofs.AxisWalks as walks
use Rattle.doc_model.proofs.walk_bounds.preceding_sibling_walk.Goals as goal

pub returns : goal.returns
returns g c =
    walks.preceding_sibling_walk (g.T.Tree.document c.args.tree.now) c.args.x c.parent.result (g.met.T.Tree.is_document c.args.tree.now)
    (walks.positive c.args.x c.if-x-eq0.false) c.requires (sym c.is_attribute.ensures ∙ c.if-is_attribute.false) c.parent.ensures
