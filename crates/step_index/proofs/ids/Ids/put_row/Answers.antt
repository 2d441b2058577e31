use Rattle.std.proofs.Common.{sym, ◌∙◌}
use Rattle.step_index.specs.inner.Tables.{row_under}
use Rattle.step_index.proofs.Filled as filled
use Rattle.step_index.proofs.ids.Ids.put_row.Goals as goal

pub returns-then-is_id : goal.returns-then-is_id
returns-then-is_id g c =
    filled.on_ok c.put.result
    (filled.id_row (g.T.Tree.document c.args.tree.now) c.args.z c.parent.result c.text.result.now (row_under c.put.new.self) (row_under c.args.self.now) c.text.utf8 c.text.ensures.chars (sym c.is_id.ensures ∙ c.if-is_id.true) c.parent.ensures)
    c.put.ensures
