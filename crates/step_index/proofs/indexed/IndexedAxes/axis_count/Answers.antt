use Rattle.std.proofs.Common.{sym, ◌∙◌}
use Rattle.step_index.proofs.Ranges as ranges
use Rattle.step_index.proofs.Siblings as siblings
use Rattle.step_index.proofs.indexed.IndexedAxes.axis_count.Goals as goal

pub returns-in-PrecedingSibling : goal.returns-in-PrecedingSibling
returns-in-PrecedingSibling g c =
    c.before-in-PrecedingSibling.ensures ∙ c.args.self.now.counted.rank c.args.x c.requires (sym c.is_element.ensures ∙ c.if-is_element.true)
    ∙ sym (siblings.any_preceding (g.T.Tree.document c.args.self.now.tree) c.args.x c.args.axis c.args.test.now (g.met.T.Tree.is_document c.args.self.now.tree) c.requires (sym c.is_element.ensures ∙ c.if-is_element.true)
    c.in-PrecedingSibling.is c.in-AnyName.is)

pub returns-in-FollowingSibling : goal.returns-in-FollowingSibling
returns-in-FollowingSibling g c =
    siblings.any_following (g.T.Tree.document c.args.self.now.tree) c.args.x c.args.axis c.args.test.now c.children_after.result (g.met.T.Tree.is_document c.args.self.now.tree) c.requires
    (sym c.is_element.ensures ∙ c.if-is_element.true) c.in-FollowingSibling.is c.in-AnyName.is c.children_after.ensures

pub returns-in-Child : goal.returns-in-Child
returns-in-Child g c =
    c.below.ensures ∙ c.args.self.now.counted.count c.args.x c.requires
    ∙ sym (ranges.any_children (g.T.Tree.document c.args.self.now.tree) c.args.x c.args.axis c.args.test.now c.in-Child.is c.in-AnyName.is)
