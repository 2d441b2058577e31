use Rattle.std.proofs.Common.{sym, ◌∙◌, ap}
use Rattle.text_base.proofs.Boundaries.{at_start, past_ascii}
use Rattle.page_records.proofs.LookLemmas.{brace_ascii}
use Rattle.page_records.proofs.braces.split_outside.Goals as goal

pub part-requires-clause-start : goal.part-requires-clause-start
part-requires-clause-start c = at_start c.args.text.now c.utf8.text

pub part-requires-then-is_outside-clause-start : goal.part-requires-then-is_outside-clause-start
part-requires-then-is_outside-clause-start c =
    let found = ap (λ b. b) (sym c.is_outside.ensures ∙ c.if-is_outside.true) in
    past_ascii c.args.text.now c.loop-at.at c.utf8.text c.loop-at-test.true (brace_ascii c.args.brace c.loop-at.quote _ (rw c.byte_at-byte.ensures at found))
