use Rattle.std.proofs.Common.{arith, refl}
use Rattle.xpath_parser.proofs.Walks.{too_large}
use Rattle.xpath_parser.proofs.numbers.digits_value.Goals as goal

pub returns-then-value-gt-LARGEST_WHOLE : goal.returns-then-value-gt-LARGEST_WHOLE
returns-then-value-gt-LARGEST_WHOLE c =
    let far = too_large c.args.digits.now c.loop-digit.digit-index c.loop-digit.value c.loop-digit-test.true c.loop-digit.invariant.1 (omega (arith, c.if-value-gt-LARGEST_WHOLE.true, c.saturating_sub.ensures)) in
    rw far refl
