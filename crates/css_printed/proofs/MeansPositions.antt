-- The conditions on the number of siblings are what `an+b` asks of the position.
use Rattle.std.proofs.Common.{◌≡◌, refl, sym, ◌∙◌, ap, ℕ, zero, suc, ◌+◌, ◌-◌, ◌*◌, ◌/◌, ◌%◌, ◌^◌, ◌<◌, ◌≤◌, arith, inl, inr, Bool, true, false, ◌&&◌, eqb, ltb, cond, List, [], ◌∷◌}
use Rattle.std.proofs.lemmas.Int.{ints}
use Rattle.std.specs.Cmp.{both_ways}
use Rattle.std.proofs.lemmas.Bool.{cases_lt, and_parts, and_from, eqb-true, eq-eqb, ltb-false}
use Rattle.std.specs.Prelude.{ℤ, pos, negsuc, ◌-ℤ◌, nat_le}
use Rattle.std.specs.List.{list_all, AllByRecursion}
use Rattle.std.proofs.lemmas.Bool.Decides.{nat_tests}
use Rattle.css_selectors.specs.WellMade.{IsSmall, most_number}
use Rattle.css_meaning.specs.Nth.{IsNth, is_nth}
use Rattle.css_meaning.proofs.Positions.{nth_law}
use Rattle.css_printed.specs.Conditions.{Condition, never, exactly, at_least, at_most, every, remainder, every_from, conditions}
use Rattle.std.proofs.Math.Nat.{mul-add-mod_self_left, mod-lt, div-add-mod, mul-mod_right, mod-eq_of_lt, mul-sub, add-mod, mod_self, mod-eq-sub-mod}

-- the quotients of two numbers with one remainder are in their order
quotients : (a x y : ℕ) → 0 < a → x ≤ y → y % a ≡ x % a → a * (y / a - x / a) + x ≡ y
quotients a x y some le same = grind (arith, div-add-mod y a, div-add-mod x a, mul-sub a (y / a) (x / a))

-- a*n + m, upwards from m
up_from : (a m c n : ℕ) → a * n + m ≡ c → (m ≤ c) × (c % a ≡ m % a)
up_from a m c n h = (omega arith, ap (λ x. x % a) (sym h) ∙ mul-add-mod_self_left a n m)

up_to : (a m c : ℕ) → 0 < a → (m ≤ c) × (c % a ≡ m % a) → (n : ℕ) × (a * n + m ≡ c)
up_to a m c some h = (c / a - m / a, quotients a m c some h.0 h.1)

-- a*n - m, from below zero
down_from : (a m c n : ℕ) → 0 < a → a * n ≡ c + m → (c + m) % a ≡ 0
down_from a m c n some h = ap (λ x. x % a) (sym h) ∙ mul-mod_right a n

down_to : (a m c : ℕ) → 0 < a → (c + m) % a ≡ 0 → (n : ℕ) × (a * n ≡ c + m)
down_to a m c some h = ((c + m) / a, grind (arith, div-add-mod (c + m) a))

-- two remainders whose sum with one more is divisible are opposite
opposite_of : (a x y : ℕ) → x < a → y < a → (x + (y + 1)) % a ≡ 0 → x ≡ a - 1 - y
opposite_of a x y lx ly h = elim (cases_lt (x + (y + 1)) a) [
  | inl lt ↦ absurd (let e : (x + (y + 1)) % a ≡ x + (y + 1) = mod-eq_of_lt lt in omega arith)
  | inr ge ↦ elim (cases_lt a (x + (y + 1))) [
    | inl gt ↦ absurd (
        let s : (x + (y + 1)) % a ≡ (x + (y + 1) - a) % a = mod-eq-sub-mod ge in
        let e : (x + (y + 1) - a) % a ≡ x + (y + 1) - a = mod-eq_of_lt (omega arith) in
        omega arith)
    | inr le ↦ omega arith
  ]
]

together_of : (a x y : ℕ) → 0 < a → y < a → x ≡ a - 1 - y → (x + (y + 1)) % a ≡ 0
together_of a x y some ly h = let e : x + (y + 1) ≡ a = omega arith in ap (λ v. v % a) e ∙ mod_self a

-- c + m + 1 by a, in remainders
in_remainders : (a m c : ℕ) → (c + (m + 1)) % a ≡ (c % a + (m % a + 1)) % a
in_remainders a m c =
    let e : c + (m + 1) ≡ (c + m) + 1 = omega arith in
    let f : c % a + (m % a + 1) ≡ (c % a + m % a) + 1 = omega arith in
    ap (λ v. v % a) e ∙ add-mod (c + m) 1 a ∙ ap (λ v. (v + 1 % a) % a) (add-mod c m a) ∙ sym (add-mod (c % a + m % a) 1 a ∙ refl) ∙ ap (λ v. v % a) (sym f)

opposite : (a m c : ℕ) → 0 < a → (c + (m + 1)) % a ≡ 0 → c % a ≡ a - 1 - m % a
opposite a m c some h = opposite_of a (c % a) (m % a) (mod-lt c some) (mod-lt m some) (sym (in_remainders a m c) ∙ h)

together : (a m c : ℕ) → 0 < a → c % a ≡ a - 1 - m % a → (c + (m + 1)) % a ≡ 0
together a m c some h = in_remainders a m c ∙ together_of a (c % a) (m % a) some (mod-lt m some) h

-- ---- what `an+b` asks of the number of siblings, by the signs

abbrev Asked : ℤ → ℤ → ℕ → Type 0
Asked (pos zero) (pos zero) c = ⊥
Asked (pos zero) (pos (suc m)) c = c ≡ m
Asked (pos zero) (negsuc m) c = ⊥
Asked (pos (suc a)) (pos zero) c = c % suc a ≡ suc a - 1 - 0 % suc a
Asked (pos (suc a)) (pos (suc m)) c = (m ≤ c) × (c % suc a ≡ m % suc a)
Asked (pos (suc a)) (negsuc m) c = c % suc a ≡ suc a - 1 - suc m % suc a
Asked (negsuc a) (pos zero) c = ⊥
Asked (negsuc a) (pos (suc m)) c = (c ≤ m) × (c % suc a ≡ m % suc a)
Asked (negsuc a) (negsuc m) c = ⊥

asked : (a b : ℤ) (c : ℕ) → IsNth a b (suc c) → Asked a b c
asked (pos zero) (pos zero) c h = absurd (omega (arith, ints, h.1))
asked (pos zero) (pos (suc m)) c h = omega (arith, ints, h.1)
asked (pos zero) (negsuc m) c h = absurd (omega (arith, ints, h.1))
asked (pos (suc a)) (pos zero) c h =
    let e : suc a * h.0 ≡ c + (0 + 1) = omega (arith, ints, h.1) in opposite (suc a) 0 c (omega arith) (down_from (suc a) (0 + 1) c h.0 (omega arith) e)
asked (pos (suc a)) (pos (suc m)) c h =
    let e : suc a * h.0 + m ≡ c = omega (arith, ints, h.1) in up_from (suc a) m c h.0 e
asked (pos (suc a)) (negsuc m) c h =
    let e : suc a * h.0 ≡ c + (suc m + 1) = omega (arith, ints, h.1) in opposite (suc a) (suc m) c (omega arith) (down_from (suc a) (suc m + 1) c h.0 (omega arith) e)
asked (negsuc a) (pos zero) c h = absurd (omega (arith, ints, h.1))
asked (negsuc a) (pos (suc m)) c h =
    let e : suc a * h.0 + c ≡ m = omega (arith, ints, h.1) in
    let u : (c ≤ m) × (m % suc a ≡ c % suc a) = up_from (suc a) c m h.0 e in (u.0, sym u.1)
asked (negsuc a) (negsuc m) c h = absurd (omega (arith, ints, h.1))

nth_from : (a b : ℤ) (c : ℕ) → Asked a b c → IsNth a b (suc c)
nth_from (pos zero) (pos zero) c h = absurd h
nth_from (pos zero) (pos (suc m)) c h = (0, omega (arith, ints, h))
nth_from (pos zero) (negsuc m) c h = absurd h
nth_from (pos (suc a)) (pos zero) c h =
    let d : (n : ℕ) × (suc a * n ≡ c + (0 + 1)) = down_to (suc a) (0 + 1) c (omega arith) (together (suc a) 0 c (omega arith) h) in (d.0, omega (arith, ints, d.1))
nth_from (pos (suc a)) (pos (suc m)) c h =
    let d : (n : ℕ) × (suc a * n + m ≡ c) = up_to (suc a) m c (omega arith) h in (d.0, omega (arith, ints, d.1))
nth_from (pos (suc a)) (negsuc m) c h =
    let d : (n : ℕ) × (suc a * n ≡ c + (suc m + 1)) = down_to (suc a) (suc m + 1) c (omega arith) (together (suc a) (suc m) c (omega arith) h) in (d.0, omega (arith, ints, d.1))
nth_from (negsuc a) (pos zero) c h = absurd h
nth_from (negsuc a) (pos (suc m)) c h =
    let d : (n : ℕ) × (suc a * n + c ≡ m) = up_to (suc a) c m (omega arith) (h.0, sym h.1) in (d.0, omega (arith, ints, d.1))
nth_from (negsuc a) (negsuc m) c h = absurd h

-- ---- the conditions

-- so many siblings meet the condition
abbrev pub meets : Condition → ℕ → Bool
meets never n = false
meets (exactly m) n = eqb n m
meets (at_least m) n = nat_le m n
meets (at_most m) n = nat_le n m
meets (every k r) n = eqb (n % k) r

abbrev pub meet_all : List Condition → ℕ → Bool
meet_all cs n = list_all (λ c. meets c n) cs

and_last : (b : Bool) → (b && true) ≡ true → b ≡ true
and_last true h = refl
and_last false h = h

last_and : (b : Bool) → b ≡ true → (b && true) ≡ true
last_and b h = ap (λ v. v && true) h

single : (k n r : ℕ) → (eqb (n % k) r && true) ≡ true → n % k ≡ r
single k n r h = eqb-true (n % k) r (and_last _ h)

every_asks : (a r c : ℕ) (b : Bool) → ltb 1 (suc a) ≡ b → r < suc a → meet_all (cond b (every (suc a) r ∷ []) []) c ≡ true → c % suc a ≡ r
every_asks a r c true e l h = single (suc a) c r h
every_asks a r c false e l h =
    let one : suc a ≤ 1 = ltb-false 1 (suc a) e in
    let small : c % suc a < suc a = mod-lt c (omega arith) in
    omega arith

asks_every : (a r c : ℕ) (b : Bool) → c % suc a ≡ r → meet_all (cond b (every (suc a) r ∷ []) []) c ≡ true
asks_every a r c true h = last_and _ (eq-eqb (c % suc a) r h)
asks_every a r c false h = refl

-- the remainders that are printed
remainder_above : (m n : ℕ) → remainder (pos (suc m) -ℤ pos 1) n ≡ m % n
remainder_above m n = let e : pos (suc m) -ℤ pos 1 ≡ pos m = omega (arith, ints) in ap (λ z. remainder z n) e

remainder_zero : (n : ℕ) → remainder (pos zero -ℤ pos 1) n ≡ n - 1 - 0 % n
remainder_zero n = let e : pos zero -ℤ pos 1 ≡ negsuc 0 = omega (arith, ints) in ap (λ z. remainder z n) e

remainder_below : (m n : ℕ) → remainder (negsuc m -ℤ pos 1) n ≡ n - 1 - suc m % n
remainder_below m n = let e : negsuc m -ℤ pos 1 ≡ negsuc (suc m) = omega (arith, ints) in ap (λ z. remainder z n) e

at_least_from : (m n : ℕ) → nat_le m n ≡ true → m ≤ n
at_least_from m n h = grind (arith, nat_tests)

at_least_to : (m n : ℕ) → m ≤ n → nat_le m n ≡ true
at_least_to m n h = grind (arith, nat_tests)

below_by : (r n k : ℕ) → r ≡ n - 1 - k → 0 < n → r < n
below_by r n k e h = omega arith

mod_below : (r m n : ℕ) → r ≡ m % n → 0 < n → r < n
mod_below r m n e h = let l : m % n < n = mod-lt m h in omega arith

meets_asked : (a b : ℤ) (c : ℕ) → meet_all (conditions a b) c ≡ true → Asked a b c
meets_asked (pos zero) (pos zero) c h = let x = h in cc
meets_asked (pos zero) (pos (suc m)) c h = eqb-true c m (and_last _ h)
meets_asked (pos zero) (negsuc m) c h = let x = h in cc
meets_asked (pos (suc a)) (pos zero) c h =
    every_asks a (remainder (pos zero -ℤ pos 1) (suc a)) c (ltb 1 (suc a)) refl (below_by _ (suc a) (0 % suc a) (remainder_zero (suc a)) (omega arith)) h ∙ remainder_zero (suc a)
meets_asked (pos (suc a)) (pos (suc zero)) c h =
    (omega arith, every_asks a (remainder (pos 1 -ℤ pos 1) (suc a)) c (ltb 1 (suc a)) refl (mod_below _ 0 (suc a) (remainder_above 0 (suc a)) (omega arith)) h ∙ remainder_above 0 (suc a))
meets_asked (pos (suc a)) (pos (suc (suc m))) c h =
    let both : (nat_le (suc m) c ≡ true) × (meet_all (every_from (suc a) (pos (suc (suc m)))) c ≡ true) = and_parts (nat_le (suc m) c) _ h in (
      at_least_from (suc m) c both.0,
      every_asks a (remainder (pos (suc (suc m)) -ℤ pos 1) (suc a)) c (ltb 1 (suc a)) refl (mod_below _ (suc m) (suc a) (remainder_above (suc m) (suc a)) (omega arith)) both.1 ∙ remainder_above (suc m) (suc a),
    )
meets_asked (pos (suc a)) (negsuc m) c h =
    every_asks a (remainder (negsuc m -ℤ pos 1) (suc a)) c (ltb 1 (suc a)) refl (below_by _ (suc a) (suc m % suc a) (remainder_below m (suc a)) (omega arith)) h ∙ remainder_below m (suc a)
meets_asked (negsuc a) (pos zero) c h = let x = h in cc
meets_asked (negsuc a) (pos (suc m)) c h =
    let both : (nat_le c m ≡ true) × (meet_all (every_from (suc a) (pos (suc m))) c ≡ true) = and_parts (nat_le c m) _ h in (
      at_least_from c m both.0,
      every_asks a (remainder (pos (suc m) -ℤ pos 1) (suc a)) c (ltb 1 (suc a)) refl (mod_below _ m (suc a) (remainder_above m (suc a)) (omega arith)) both.1 ∙ remainder_above m (suc a),
    )
meets_asked (negsuc a) (negsuc m) c h = let x = h in cc

asked_meets : (a b : ℤ) (c : ℕ) → Asked a b c → meet_all (conditions a b) c ≡ true
asked_meets (pos zero) (pos zero) c h = absurd h
asked_meets (pos zero) (pos (suc m)) c h = last_and _ (eq-eqb c m h)
asked_meets (pos zero) (negsuc m) c h = absurd h
asked_meets (pos (suc a)) (pos zero) c h = asks_every a (remainder (pos zero -ℤ pos 1) (suc a)) c (ltb 1 (suc a)) (h ∙ sym (remainder_zero (suc a)))
asked_meets (pos (suc a)) (pos (suc zero)) c h = asks_every a (remainder (pos 1 -ℤ pos 1) (suc a)) c (ltb 1 (suc a)) (h.1 ∙ sym (remainder_above 0 (suc a)))
asked_meets (pos (suc a)) (pos (suc (suc m))) c h =
    and_from _ _ (at_least_to (suc m) c h.0) (asks_every a (remainder (pos (suc (suc m)) -ℤ pos 1) (suc a)) c (ltb 1 (suc a)) (h.1 ∙ sym (remainder_above (suc m) (suc a))))
asked_meets (pos (suc a)) (negsuc m) c h = asks_every a (remainder (negsuc m -ℤ pos 1) (suc a)) c (ltb 1 (suc a)) (h ∙ sym (remainder_below m (suc a)))
asked_meets (negsuc a) (pos zero) c h = absurd h
asked_meets (negsuc a) (pos (suc m)) c h =
    and_from _ _ (at_least_to c m h.0) (asks_every a (remainder (pos (suc m) -ℤ pos 1) (suc a)) c (ltb 1 (suc a)) (h.1 ∙ sym (remainder_above m (suc a))))
asked_meets (negsuc a) (negsuc m) c h = absurd h

-- the conditions hold of so many siblings where `an+b` names the position behind them
pub conditions_nth : (a b : ℤ) (c : ℕ) → meet_all (conditions a b) c ≡ is_nth a b (suc c)
conditions_nth a b c = both_ways _ _ (λ h. (nth_law a b (suc c)).1 (nth_from a b c (meets_asked a b c h))) (λ h. asked_meets a b c (asked a b c ((nth_law a b (suc c)).0 h)))

-- ---- their numbers are small

abbrev pub IsSmallCondition : Condition → Type 0
IsSmallCondition never = Unit {0}
IsSmallCondition (exactly m) = m < 2 ^ 53
IsSmallCondition (at_least m) = m < 2 ^ 53
IsSmallCondition (at_most m) = m < 2 ^ 53
IsSmallCondition (every k r) = (0 < k) × (k < 2 ^ 53) × (r < 2 ^ 53)

small_every : (a r : ℕ) (b : Bool) → suc a ≤ most_number → r < suc a → AllByRecursion IsSmallCondition (cond b (every (suc a) r ∷ []) [])
small_every a r true h l = ((omega arith, omega arith, omega arith), tt)
small_every a r false h l = tt

pub small_conditions : (a b : ℤ) → IsSmall a → IsSmall b → AllByRecursion IsSmallCondition (conditions a b)
small_conditions (pos zero) (pos zero) h k = (tt, tt)
small_conditions (pos zero) (pos (suc m)) h k = (omega arith, tt)
small_conditions (pos zero) (negsuc m) h k = (tt, tt)
small_conditions (pos (suc a)) (pos zero) h k = small_every a (remainder (pos zero -ℤ pos 1) (suc a)) (ltb 1 (suc a)) h (below_by _ (suc a) (0 % suc a) (remainder_zero (suc a)) (omega arith))
small_conditions (pos (suc a)) (pos (suc zero)) h k = small_every a (remainder (pos 1 -ℤ pos 1) (suc a)) (ltb 1 (suc a)) h (mod_below _ 0 (suc a) (remainder_above 0 (suc a)) (omega arith))
small_conditions (pos (suc a)) (pos (suc (suc m))) h k =
    (omega arith, small_every a (remainder (pos (suc (suc m)) -ℤ pos 1) (suc a)) (ltb 1 (suc a)) h (mod_below _ (suc m) (suc a) (remainder_above (suc m) (suc a)) (omega arith)))
small_conditions (pos (suc a)) (negsuc m) h k = small_every a (remainder (negsuc m -ℤ pos 1) (suc a)) (ltb 1 (suc a)) h (below_by _ (suc a) (suc m % suc a) (remainder_below m (suc a)) (omega arith))
small_conditions (negsuc a) (pos zero) h k = (tt, tt)
small_conditions (negsuc a) (pos (suc m)) h k =
    (omega arith, small_every a (remainder (pos (suc m) -ℤ pos 1) (suc a)) (ltb 1 (suc a)) h (mod_below _ m (suc a) (remainder_above m (suc a)) (omega arith)))
small_conditions (negsuc a) (negsuc m) h k = (tt, tt)
