use Rattle.std.proofs.Common.{◌≡◌, ℕ, ◌<◌, ◌^◌, true, false, sym, ◌∙◌, ap, arith, w64}
use Rattle.std.proofs.lemmas.Int.{ints, to_z-of_z}
use Rattle.std.specs.Prelude.{ℤ, pos, ◌-ℤ◌, ◌<ℤ◌, ◌≤ℤ◌}
use Rattle.std.specs.Int.RustNames.{unsigned_abs}
use lib.Signed.{lt_z}
use mir.Val.{SFits, to_z, of_z}
use Rattle.css_meaning.proofs.NthTests.{at_position, upwards, not_upwards, downwards, not_downwards}
use Rattle.css_meaning.proofs.nth.is_nth.Goals as goal

-- what the casts of the code leave as it is
far_is : (b q : ℤ) (p gap : ℕ) → SFits w64 b → p < 2 ^ 32 → q ≡ pos p → gap ≡ unsigned_abs (to_z w64 (of_z w64 b) -ℤ to_z w64 (of_z w64 q)) → gap ≡ unsigned_abs (b -ℤ pos p)
far_is b q p gap fits small same far =
    let wide : SFits w64 q = omega (arith, ints) in
    far ∙ ap (λ v. unsigned_abs (v -ℤ to_z w64 (of_z w64 q))) (to_z-of_z w64 b fits) ∙ ap (λ v. unsigned_abs (b -ℤ v)) (to_z-of_z w64 q wide ∙ same)

less_is : (b q : ℤ) (p : ℕ) → SFits w64 b → p < 2 ^ 32 → q ≡ pos p → lt_z (to_z w64 (of_z w64 b)) (to_z w64 (of_z w64 q)) ≡ true → b <ℤ pos p
less_is b q p fits small same h = grind (arith, ints)

more_is : (b q : ℤ) (p : ℕ) → SFits w64 b → p < 2 ^ 32 → q ≡ pos p → lt_z (to_z w64 (of_z w64 b)) (to_z w64 (of_z w64 q)) ≡ false → pos p ≤ℤ b
more_is b q p fits small same h = grind (arith, ints)

up_is : (a : ℤ) → SFits w64 a → lt_z (pos 0) (to_z w64 (of_z w64 a)) ≡ true → pos 0 <ℤ a
up_is a fits h = grind (arith, ints)

not_up_is : (a : ℤ) → SFits w64 a → lt_z (pos 0) (to_z w64 (of_z w64 a)) ≡ false → a ≤ℤ pos 0
not_up_is a fits h = grind (arith, ints)

down_is : (a : ℤ) → SFits w64 a → lt_z (to_z w64 (of_z w64 a)) (pos 0) ≡ true → a <ℤ pos 0
down_is a fits h = grind (arith, ints)

not_down_is : (a : ℤ) → SFits w64 a → lt_z (to_z w64 (of_z w64 a)) (pos 0) ≡ false → pos 0 ≤ℤ a
not_down_is a fits h = grind (arith, ints)

step_is : (a : ℤ) (step : ℕ) → SFits w64 a → step ≡ unsigned_abs (to_z w64 (of_z w64 a)) → step ≡ unsigned_abs a
step_is a step fits h = h ∙ ap unsigned_abs (to_z-of_z w64 a fits)

pub returns-then-gap-eq0 : goal.returns-then-gap-eq0
returns-then-gap-eq0 c =
    let far = far_is c.args.b c.from-position.result c.args.position c.abs_diff-gap.result c.ranges.b (omega arith) c.from-position.ensures c.abs_diff-gap.ensures in
    sym (at_position c.args.a c.args.b c.args.position (sym far ∙ c.if-gap-eq0.true))

pub returns-then-a-gt0 : goal.returns-then-a-gt0
returns-then-a-gt0 c =
    let far = far_is c.args.b c.from-position.result c.args.position c.abs_diff-gap.result c.ranges.b (omega arith) c.from-position.ensures c.abs_diff-gap.ensures in
    upwards c.args.a c.args.b c.args.position c.abs_diff-gap.result c.unsigned_abs.result
    (less_is c.args.b c.from-position.result c.args.position c.ranges.b (omega arith) c.from-position.ensures c.if-b-position.true) (up_is c.args.a c.ranges.a c.if-a-gt0.true)
    far (step_is c.args.a c.unsigned_abs.result c.ranges.a c.unsigned_abs.ensures.value)

pub returns-else-a-gt0 : goal.returns-else-a-gt0
returns-else-a-gt0 c =
    c.if-a-gt0.false
    ∙ sym (not_upwards c.args.a c.args.b c.args.position (less_is c.args.b c.from-position.result c.args.position c.ranges.b (omega arith) c.from-position.ensures c.if-b-position.true)
    (not_up_is c.args.a c.ranges.a c.if-a-gt0.false))

pub returns-then-a-lt0 : goal.returns-then-a-lt0
returns-then-a-lt0 c =
    let far = far_is c.args.b c.from-position.result c.args.position c.abs_diff-gap.result c.ranges.b (omega arith) c.from-position.ensures c.abs_diff-gap.ensures in
    downwards c.args.a c.args.b c.args.position c.abs_diff-gap.result c.unsigned_abs-then-a-lt0.result
    (more_is c.args.b c.from-position.result c.args.position c.ranges.b (omega arith) c.from-position.ensures c.if-b-position.false) (down_is c.args.a c.ranges.a c.if-a-lt0.true)
    far (step_is c.args.a c.unsigned_abs-then-a-lt0.result c.ranges.a c.unsigned_abs-then-a-lt0.ensures.value)

pub returns-else-a-lt0 : goal.returns-else-a-lt0
returns-else-a-lt0 c =
    let far = far_is c.args.b c.from-position.result c.args.position c.abs_diff-gap.result c.ranges.b (omega arith) c.from-position.ensures c.abs_diff-gap.ensures in
    c.if-a-lt0.false
    ∙ sym (not_downwards c.args.a c.args.b c.args.position c.abs_diff-gap.result (more_is c.args.b c.from-position.result c.args.position c.ranges.b (omega arith) c.from-position.ensures c.if-b-position.false)
    c.if-gap-eq0.false far (not_down_is c.args.a c.ranges.a c.if-a-lt0.false))
