use Rattle.css_meaning.proofs.SiblingWalks.{first_span, last_span}
use Rattle.css_meaning.proofs.siblings.span_of.Goals as goal

pub returns-in-Child : goal.returns-in-Child
returns-in-Child g c =
    first_span (g.T.Tree.document c.args.tree.now) c.args.kind c.args.e c.parent-parent.result (g.met.T.Tree.is_document c.args.tree.now) c.requires c.in-Child.is c.parent-parent.ensures

pub returns-in-LastChild : goal.returns-in-LastChild
returns-in-LastChild g c =
    last_span (g.T.Tree.document c.args.tree.now) c.args.kind c.args.e c.parent-parent.result c.behind.result c.end.result (g.met.T.Tree.is_document c.args.tree.now)
    c.in-LastChild.is c.parent-parent.ensures c.behind.ensures c.end.ensures
