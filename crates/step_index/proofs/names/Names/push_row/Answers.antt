use Rattle.std.proofs.Common.{sym, ◌∙◌}
use Rattle.step_index.specs.inner.Tables.{rows_under}
use Rattle.step_index.proofs.Filled as filled
use Rattle.step_index.proofs.names.Names.push_row.Goals as goal

pub returns-in-Element-clause-rows : goal.returns-in-Element-clause-rows
returns-in-Element-clause-rows g c =
    filled.on_ok c.push.result
    (filled.named_row (g.T.Tree.document c.args.tree.now) c.args.y c.name.result.now (rows_under c.push.new.self) (rows_under c.args.self.now) c.name.utf8 c.name.ensures.chars (sym c.kind.ensures ∙ c.in-Element.is))
    c.push.ensures

pub returns-in-Element-clause-text : goal.returns-in-Element-clause-text
returns-in-Element-clause-text g c = filled.on_ok c.push.result (λ h e. (c.name.result.now, (c.name.utf8, c.name.ensures.chars))) c.push.ensures
