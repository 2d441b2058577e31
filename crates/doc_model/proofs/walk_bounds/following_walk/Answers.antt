use Rattle.std.proofs.Common.{subst, sym}
use Rattle.doc_model.specs.declared.Axis.TheVariants as axis
use Rattle.doc_model.specs.inner.Walks.{IsWalk}
use Rattle.doc_model.proofs.AxisWalks as walks
use Rattle.doc_model.proofs.walk_bounds.following_walk.Goals as goal
use Rattle.std.proofs.Common.{false}

pub returns : goal.returns
returns g c =
    let doc = g.T.Tree.document c.args.tree.now in
    subst (λ n. IsWalk doc axis.Following c.args.x c.end.result n false) (sym c.len.ensures) (walks.following_walk doc c.args.x c.end.result (g.met.T.Tree.is_document c.args.tree.now) c.end.ensures)
