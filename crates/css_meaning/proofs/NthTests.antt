-- The positions that `an+b` names, by a remainder.
use Rattle.std.proofs.Common.{◌≡◌, ℕ, zero, suc, ◌*◌, ◌/◌, ◌%◌, true, false, eqb, ap, sym, ◌∙◌, arith}
use Rattle.std.proofs.Math.Nat.{mul-mod_right}
use Rattle.std.specs.Cmp.{both_ways}
use Rattle.std.proofs.lemmas.Bool.{eqb-true, eq-eqb, false_from_ne_true}
use Rattle.std.proofs.lemmas.Int.{ints}
use Rattle.std.specs.Prelude.{ℤ, pos, negsuc, ◌+ℤ◌, ◌-ℤ◌, ◌*ℤ◌, ◌<ℤ◌, ◌≤ℤ◌}
use Rattle.std.specs.Int.RustNames.{unsigned_abs}
use Rattle.css_meaning.specs.Nth.{is_nth}
use Rattle.css_meaning.proofs.Positions.{nth_law}

-- the gap is a multiple of the step
divided : (k gap : ℕ) → eqb (gap % suc k) 0 ≡ true → suc k * (gap / suc k) ≡ gap
divided k gap h = let none : gap % suc k ≡ 0 = eqb-true _ _ h in omega arith

multiple : (k gap n : ℕ) → suc k * n ≡ gap → eqb (gap % suc k) 0 ≡ true
multiple k gap n h = eq-eqb _ _ (ap (λ x. x % suc k) (sym h) ∙ mul-mod_right (suc k) n)

-- b is the position
pub at_position : (a b : ℤ) (p : ℕ) → unsigned_abs (b -ℤ pos p) ≡ 0 → is_nth a b p ≡ true
at_position a b p h = let same : b ≡ pos p = omega (arith, ints, h) in (nth_law a b p).1 (0, omega (arith, ints, same))

-- b is less than the position
up_from : (k : ℕ) (b : ℤ) (p gap n : ℕ) → b <ℤ pos p → gap ≡ unsigned_abs (b -ℤ pos p) → (pos (suc k) *ℤ pos n) +ℤ b ≡ pos p → suc k * n ≡ gap
up_from k b p gap n less far h = omega (arith, ints, less, far, h)

up_to : (k : ℕ) (b : ℤ) (p gap n : ℕ) → b <ℤ pos p → gap ≡ unsigned_abs (b -ℤ pos p) → suc k * n ≡ gap → (pos (suc k) *ℤ pos n) +ℤ b ≡ pos p
up_to k b p gap n less far h = omega (arith, ints, less, far, h)

pub upwards : (a b : ℤ) (p gap step : ℕ) → b <ℤ pos p → pos 0 <ℤ a → gap ≡ unsigned_abs (b -ℤ pos p) → step ≡ unsigned_abs a → eqb (gap % step) 0 ≡ is_nth a b p
upwards (pos zero) b p gap step less some far size = absurd (omega (arith, ints, some))
upwards (negsuc k) b p gap step less some far size = absurd (omega (arith, ints, some))
upwards (pos (suc k)) b p gap step less some far size =
    ap (λ s. eqb (gap % s) 0) size
    ∙ both_ways _ _
    (λ h. (nth_law (pos (suc k)) b p).1 (gap / suc k, up_to k b p gap (gap / suc k) less far (divided k gap h)))
    (λ h. let w = (nth_law (pos (suc k)) b p).0 h in multiple k gap w.0 (up_from k b p gap w.0 less far w.1))

never_up : (a b : ℤ) (p n : ℕ) → b <ℤ pos p → a ≤ℤ pos 0 → (a *ℤ pos n) +ℤ b ≡ pos p → ⊥
never_up (pos zero) b p n less none h = omega (arith, ints, less, h)
never_up (pos (suc k)) b p n less none h = omega (arith, ints, none)
never_up (negsuc k) b p n less none h = omega (arith, ints, less, h)

pub not_upwards : (a b : ℤ) (p : ℕ) → b <ℤ pos p → a ≤ℤ pos 0 → is_nth a b p ≡ false
not_upwards a b p less none = false_from_ne_true _ (λ h. let w = (nth_law a b p).0 h in never_up a b p w.0 less none w.1)

-- b is more than the position
down_from : (k : ℕ) (b : ℤ) (p gap n : ℕ) → pos p ≤ℤ b → gap ≡ unsigned_abs (b -ℤ pos p) → (negsuc k *ℤ pos n) +ℤ b ≡ pos p → suc k * n ≡ gap
down_from k b p gap n more far h = omega (arith, ints, more, far, h)

down_to : (k : ℕ) (b : ℤ) (p gap n : ℕ) → pos p ≤ℤ b → gap ≡ unsigned_abs (b -ℤ pos p) → suc k * n ≡ gap → (negsuc k *ℤ pos n) +ℤ b ≡ pos p
down_to k b p gap n more far h = omega (arith, ints, more, far, h)

pub downwards : (a b : ℤ) (p gap step : ℕ) → pos p ≤ℤ b → a <ℤ pos 0 → gap ≡ unsigned_abs (b -ℤ pos p) → step ≡ unsigned_abs a → eqb (gap % step) 0 ≡ is_nth a b p
downwards (pos k) b p gap step more some far size = absurd (omega (arith, ints, some))
downwards (negsuc k) b p gap step more some far size =
    ap (λ s. eqb (gap % s) 0) size
    ∙ both_ways _ _
    (λ h. (nth_law (negsuc k) b p).1 (gap / suc k, down_to k b p gap (gap / suc k) more far (divided k gap h)))
    (λ h. let w = (nth_law (negsuc k) b p).0 h in multiple k gap w.0 (down_from k b p gap w.0 more far w.1))

never_down : (a b : ℤ) (p gap n : ℕ) → pos p ≤ℤ b → (gap ≡ 0 → ⊥) → gap ≡ unsigned_abs (b -ℤ pos p) → pos 0 ≤ℤ a → (a *ℤ pos n) +ℤ b ≡ pos p → ⊥
never_down (pos k) b p gap n more apart far none h = apart (omega (arith, ints, more, far, h))
never_down (negsuc k) b p gap n more apart far none h = omega (arith, ints, none)

pub not_downwards : (a b : ℤ) (p gap : ℕ) → pos p ≤ℤ b → (gap ≡ 0 → ⊥) → gap ≡ unsigned_abs (b -ℤ pos p) → pos 0 ≤ℤ a → is_nth a b p ≡ false
not_downwards a b p gap more apart far none = false_from_ne_true _ (λ h. let w = (nth_law a b p).0 h in never_down a b p gap w.0 more apart far none w.1)
