use Rattle.std.proofs.Common.{◌≡◌, ◌-◌, arith, get_or}
use Rattle.text_base.proofs.Boundaries.{at_start, past_ascii}
use Rattle.page_records.proofs.words.last_point.Goals as goal

pub part-requires-clause-start : goal.part-requires-clause-start
part-requires-clause-start c = at_start c.args.text.now c.utf8.text

pub part-requires-then-byte_at-eq46-clause-start : goal.part-requires-then-byte_at-eq46-clause-start
part-requires-then-byte_at-eq46-clause-start c =
    let here : get_or c.args.text.now (c.loop-at.at - 1) 0 ≡ 46 = rw c.byte_at.ensures at c.if-byte_at-eq46.true in
    past_ascii c.args.text.now (c.loop-at.at - 1) c.utf8.text (omega (arith, c.loop-at.invariant.order, c.loop-at-test.true)) (omega (arith, here))
