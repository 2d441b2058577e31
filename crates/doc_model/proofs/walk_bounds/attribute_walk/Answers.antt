use Rattle.doc_model.proofs.AxisWalks as walks
use Rattle.doc_model.proofs.walk_bounds.attribute_walk.Goals as goal

pub returns : goal.returns
returns g c = walks.attribute_walk (g.T.Tree.document c.args.tree.now) c.args.x c.attributes_end-to.result (g.met.T.Tree.is_document c.args.tree.now) c.attributes_end-to.ensures
