use Rattle.std.proofs.Common.{◌≡◌, take, arith, sym, ◌∙◌}
use Rattle.extract_call.proofs.Counts.{count_empty, count_long, count_other, count_low, count_high, count_read, take_end}
use Rattle.extract_call.proofs.words.count_of.Goals as goal

pub returns-then-is_empty : goal.returns-then-is_empty
returns-then-is_empty c = count_empty c.args.word.now (rw (← c.as_bytes-bytes.ensures.value) (grind arith))

pub returns-then-bytes-gt5 : goal.returns-then-bytes-gt5
returns-then-bytes-gt5 c = count_long c.args.word.now (rw (← c.as_bytes-bytes.ensures.value) c.if-bytes-gt5.true)

pub returns-then-not-is_digit : goal.returns-then-not-is_digit
returns-then-not-is_digit c = rw (← c.as_bytes-bytes.ensures.value) (count_other c.as_bytes-bytes.result.now c.loop-byte.byte-index c.loop-byte.invariant.some c.loop-byte.invariant.short c.loop-byte-test.true (sym c.is_digit.ensures ∙ c.if-not-is_digit.true))

pub returns-then-value-lt1 : goal.returns-then-value-lt1
returns-then-value-lt1 c =
    let whole : take c.loop-byte.byte-index c.as_bytes-bytes.result.now ≡ c.as_bytes-bytes.result.now = take_end c.as_bytes-bytes.result.now c.loop-byte.byte-index (omega arith) in
    let v = rw whole at c.loop-byte.invariant.value in
    let d = rw whole at c.loop-byte.invariant.digits in
    rw (← c.as_bytes-bytes.ensures.value) (count_low c.as_bytes-bytes.result.now c.loop-byte.invariant.some c.loop-byte.invariant.short d (rw (← v) c.if-value-lt1.true))

pub returns-then-value-gt20000 : goal.returns-then-value-gt20000
returns-then-value-gt20000 c =
    let whole : take c.loop-byte.byte-index c.as_bytes-bytes.result.now ≡ c.as_bytes-bytes.result.now = take_end c.as_bytes-bytes.result.now c.loop-byte.byte-index (omega arith) in
    let v = rw whole at c.loop-byte.invariant.value in
    let d = rw whole at c.loop-byte.invariant.digits in
    rw (← c.as_bytes-bytes.ensures.value) (count_high c.as_bytes-bytes.result.now c.loop-byte.invariant.some c.loop-byte.invariant.short d (rw (← v) c.if-value-gt20000.true))

pub returns : goal.returns
returns c =
    let whole : take c.loop-byte.byte-index c.as_bytes-bytes.result.now ≡ c.as_bytes-bytes.result.now = take_end c.as_bytes-bytes.result.now c.loop-byte.byte-index (omega arith) in
    let v = rw whole at c.loop-byte.invariant.value in
    let d = rw whole at c.loop-byte.invariant.digits in
    rw (← c.as_bytes-bytes.ensures.value, v) (count_read c.as_bytes-bytes.result.now c.loop-byte.invariant.some c.loop-byte.invariant.short d (rw (← v) c.if-value-lt1.false) (rw (← v) c.if-value-gt20000.false))
