use Rattle.css_meaning.proofs.SiblingWalks.{end_behind}
use Rattle.css_meaning.proofs.siblings.behind.Goals as goal

pub returns-else-e-eq0 : goal.returns-else-e-eq0
returns-else-e-eq0 g c = end_behind (g.T.Tree.document c.args.tree.now) c.args.e c.end.result (g.met.T.Tree.is_document c.args.tree.now) c.if-e-eq0.false c.end.ensures
