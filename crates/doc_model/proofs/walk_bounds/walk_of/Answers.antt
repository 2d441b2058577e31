use Rattle.std.proofs.Common.{refl}
use Rattle.doc_model.proofs.AxisWalks as walks
use Rattle.doc_model.proofs.walk_bounds.walk_of.Goals as goal

pub returns-in-Child : goal.returns-in-Child
returns-in-Child g c =
    let doc = g.T.Tree.document c.args.tree.now in
    walks.moved doc _ c.args.axis c.args.x _ c.below.result.from c.below.result.to _ c.below.result.hops
    (walks.child_walk doc c.args.x c.below.result.to (g.met.T.Tree.is_document c.args.tree.now) c.below.ensures.to) c.in-Child.is c.below.ensures.from c.below.ensures.hops

pub returns-in-Descendant : goal.returns-in-Descendant
returns-in-Descendant g c =
    let doc = g.T.Tree.document c.args.tree.now in
    let w = c.below-in-Descendant in
    walks.moved doc _ c.args.axis c.args.x _ w.result.from w.result.to _ w.result.hops
    (walks.descendant_walk doc c.args.x w.result.to (g.met.T.Tree.is_document c.args.tree.now) w.ensures.to) c.in-Descendant.is w.ensures.from w.ensures.hops

pub returns-in-DescendantOrSelf : goal.returns-in-DescendantOrSelf
returns-in-DescendantOrSelf g c =
    let doc = g.T.Tree.document c.args.tree.now in
    walks.moved doc _ c.args.axis c.args.x _ c.args.x c.end.result _ _
    (walks.descendant_or_self_walk doc c.args.x c.end.result (g.met.T.Tree.is_document c.args.tree.now) c.end.ensures) c.in-DescendantOrSelf.is refl refl
