use Rattle.std.proofs.Common.{sym, ◌∙◌, arith}
use Rattle.css_meaning.proofs.TextTests.{decides_same, lower_front, short_start, too_long}
use Rattle.css_meaning.proofs.texts.begins_in_any_case.Goals as goal

pub returns-then-start-bytes : goal.returns-then-start-bytes
returns-then-start-bytes c =
    decides_same _ _ _ c.eq_ignore_ascii_case.ensures.test ∙ lower_front c.args.start.now c.args.bytes.now

pub returns-else-start-bytes : goal.returns-else-start-bytes
returns-else-start-bytes c =
    too_long _ _ (omega arith) ∙ sym (short_start c.args.bytes.now c.args.start.now (omega arith))
