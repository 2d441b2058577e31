use Rattle.std.proofs.Common.{sym, ◌∙◌, arith}
use Rattle.worked_trees.proofs.Rows.{filled}
use Rattle.worked_trees.proofs.steps.start.Goals as goal

pub text-requires : goal.text-requires
text-requires c =
    (filled c.args.text.now c.utf8.text (sym c.is_empty.ensures ∙ c.if-is_empty.false), (c.in_ok-start_tag.ensures.awaits, omega (arith, c.in_ok-start_tag.ensures.rows, c.requires)))
