use Rattle.std.proofs.Common.{arith}
use Rattle.step_index.proofs.Counted as counted
use Rattle.step_index.proofs.indexed.Indexed.children_after.Goals as goal

pub overflow_sub-result : goal.overflow_sub-result
overflow_sub-result g c =
    let t = counted.all_children (g.T.Tree.document c.args.self.now.tree) c.args.self.now.children.ranks.items c.args.self.now.children.counts.items c.args.x c.parent.result c.below-all.result c.before-before.result
    (g.met.T.Tree.is_document c.args.self.now.tree) c.requires.row c.requires.element c.parent.ensures c.below-all.ensures c.before-before.ensures c.args.self.now.counted in
    omega (arith, t.2)

pub overflow_sub-result-2 : goal.overflow_sub-result-2
overflow_sub-result-2 g c =
    let t = counted.all_children (g.T.Tree.document c.args.self.now.tree) c.args.self.now.children.ranks.items c.args.self.now.children.counts.items c.args.x c.parent.result c.below-all.result c.before-before.result
    (g.met.T.Tree.is_document c.args.self.now.tree) c.requires.row c.requires.element c.parent.ensures c.below-all.ensures c.before-before.ensures c.args.self.now.counted in
    omega (arith, t.2)

pub returns : goal.returns
returns g c =
    let t = counted.all_children (g.T.Tree.document c.args.self.now.tree) c.args.self.now.children.ranks.items c.args.self.now.children.counts.items c.args.x c.parent.result c.below-all.result c.before-before.result
    (g.met.T.Tree.is_document c.args.self.now.tree) c.requires.row c.requires.element c.parent.ensures c.below-all.ensures c.before-before.ensures c.args.self.now.counted in
    omega (arith, t.0, t.1, t.2)
