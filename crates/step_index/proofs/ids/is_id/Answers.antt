use Rattle.std.proofs.Common.{sym, ◌∙◌}
use Rattle.step_index.proofs.Filled as filled
use Rattle.step_index.proofs.ids.is_id.Goals as goal

pub returns-in-Attribute : goal.returns-in-Attribute
returns-in-Attribute g c = filled.is_id (g.T.Tree.document c.args.tree.now) c.args.z c.name.result.now c.eq.result c.name.utf8 c.name.ensures.chars (sym c.kind.ensures ∙ c.in-Attribute.is) c.eq.ensures
