-- How values end: the last characters of a value, as many as a text has.
use Rattle.std.proofs.Common.{◌≡◌, ◌≢◌, refl, ℕ, zero, suc, ◌+◌, ◌-◌, ◌^◌, ◌<◌, ◌≤◌, Bool, true, false, ◌||◌, cond, List, [], ◌∷◌, length, drop, ap, sym, ◌∙◌, arith, ◌⊎◌, inl, inr}
use Rattle.std.specs.Prelude.{ℤ, pos, nat_le, int_le, ◌-ℤ◌, unsigned_abs}
use Rattle.std.specs.Str.{bytes_eq}
use Rattle.std.proofs.lemmas.Int.{ints}
use Rattle.std.proofs.lemmas.Bool.{false_from_ne_true, cases_lt}
use Rattle.std.proofs.lemmas.Bool.Decides.{nat_tests}
use Rattle.text_base.specs.Strings.{is_empty, ends_with}
use Rattle.text_base.proofs.PartLemmas.{same_means}
use Rattle.xpath_values.specs.declared.value.XNum.TheVariants.{Whole, NaN}
use Rattle.xpath_values.specs.Numbers.{whole, num_sub}
use Rattle.xpath_values.specs.Strings.{at_places, substring_from}
use Rattle.css_meaning.proofs.ListTests.{or_false}

drop_none : (n : ℕ) → drop {A = ℕ} n [] ≡ []
drop_none zero = refl
drop_none (suc n) = refl

le_moved : (m k p : ℕ) → int_le (pos m -ℤ pos k) (pos p) ≡ nat_le m (k + p)
le_moved m k p = grind (arith, ints, nat_tests)

differ : (a b : List ℕ) → length a ≢ length b → bytes_eq a b ≡ false
differ a b h = false_from_ne_true _ (λ t. h (ap length ((same_means a b).0 t)))

places_at : (m k at : ℕ) (c : ℕ) (cs : List ℕ) (b : Bool) → nat_le m (k + at) ≡ b → at_places (λ p. int_le (pos m -ℤ pos k) (pos p)) (suc at) cs ≡ drop (m - (k + suc at)) cs
    → cond b (c ∷ at_places (λ p. int_le (pos m -ℤ pos k) (pos p)) (suc at) cs) (at_places (λ p. int_le (pos m -ℤ pos k) (pos p)) (suc at) cs) ≡ drop (m - (k + at)) (c ∷ cs)
places_at m k at c cs true e more =
    let l : m ≤ k + at = grind (arith, nat_tests) in
    let z : m - (k + suc at) ≡ 0 = omega arith in
    let y : m - (k + at) ≡ 0 = omega arith in
    ap (λ r. c ∷ r) (more ∙ ap (λ n. drop n cs) z) ∙ ap (λ n. drop n (c ∷ cs)) (sym y)
places_at m k at c cs false e more =
    let l : k + at < m = grind (arith, nat_tests) in
    let y : m - (k + at) ≡ suc (m - (k + suc at)) = omega arith in
    more ∙ ap (λ n. drop n (c ∷ cs)) (sym y)

-- the characters from the place on
places_drop : (m k at : ℕ) (cs : List ℕ) → at_places (λ p. int_le (pos m -ℤ pos k) (pos p)) at cs ≡ drop (m - (k + at)) cs
places_drop m k at [] = sym (drop_none (m - (k + at)))
places_drop m k at (c ∷ cs) =
    ap (λ b. cond b (c ∷ at_places (λ p. int_le (pos m -ℤ pos k) (pos p)) (suc at) cs) (at_places (λ p. int_le (pos m -ℤ pos k) (pos p)) (suc at) cs)) (le_moved m k at)
    ∙ places_at m k at c cs (nat_le m (k + at)) refl (places_drop m k (suc at) cs)

ends_at : (a : ℕ) (x v : List ℕ) → ends_with x v ≡ bytes_eq (drop (length x - length v) x) v → (length v ≤ length x) ⊎ (length x < length v)
    → (bytes_eq (a ∷ x) v || ends_with x v) ≡ bytes_eq (drop (suc (length x) - length v) (a ∷ x)) v
ends_at a x v more (inl le) =
    let e : suc (length x) - length v ≡ suc (length x - length v) = omega arith in
    ap (λ b. b || ends_with x v) (differ (a ∷ x) v (λ h. omega arith)) ∙ more ∙ ap (λ n. bytes_eq (drop n (a ∷ x)) v) (sym e)
ends_at a x v more (inr lt) =
    let z : suc (length x) - length v ≡ 0 = omega arith in
    let y : length x - length v ≡ 0 = omega arith in
    ap (λ b. bytes_eq (a ∷ x) v || b) (more ∙ ap (λ n. bytes_eq (drop n x) v) y ∙ differ x v (λ h. omega arith))
    ∙ or_false (bytes_eq (a ∷ x) v) ∙ ap (λ n. bytes_eq (drop n (a ∷ x)) v) (sym z)

either_length : (a b : ℕ) → (b ≤ a) ⊎ (a < b)
either_length a b = elim (cases_lt a b) [ inl l ↦ inr l | inr l ↦ inl l ]

-- a text ends with its last characters
ends_drop : (x v : List ℕ) → ends_with x v ≡ bytes_eq (drop (length x - length v) x) v
ends_drop [] v = ap (λ t. bytes_eq t v) (sym (drop_none (0 - length v)))
ends_drop (a ∷ x) v = ends_at a x v (ends_drop x v) (either_length (length x) (length v))

in_it : (z : ℤ) → unsigned_abs z < 2 ^ 53 → whole z ≡ Whole z
in_it z h = let t : nat_le (unsigned_abs z) 9007199254740991 ≡ true = grind (arith, nat_tests) in ap (λ b. cond b (Whole z) NaN) t

out_of_it : (z : ℤ) → 2 ^ 53 ≤ unsigned_abs z → whole z ≡ NaN
out_of_it z h = let t : nat_le (unsigned_abs z) 9007199254740991 ≡ false = grind (arith, nat_tests) in ap (λ b. cond b (Whole z) NaN) t

gap_small : (m k : ℕ) → m < 2 ^ 53 → k < 2 ^ 53 → unsigned_abs (pos m -ℤ pos k) < 2 ^ 53
gap_small m k h l = omega (arith, ints)

some_length : (v : List ℕ) → is_empty v ≡ false → 0 < length v
some_length [] h = cc
some_length (b ∷ v) h = omega arith

suffix_at : (x v : List ℕ) → 0 < length v → length x < 2 ^ 53 → (length v - 1 < 2 ^ 53) ⊎ (2 ^ 53 ≤ length v - 1)
    → bytes_eq (substring_from x (num_sub (whole (pos (length x))) (whole (pos (length v - 1))))) v ≡ ends_with x v
suffix_at x v some small (inl l) =
    ap (λ n. bytes_eq (substring_from x (num_sub n (whole (pos (length v - 1))))) v) (in_it (pos (length x)) small)
    ∙ ap (λ n. bytes_eq (substring_from x (num_sub (Whole (pos (length x))) n)) v) (in_it (pos (length v - 1)) l)
    ∙ ap (λ n. bytes_eq (substring_from x n) v) (in_it (pos (length x) -ℤ pos (length v - 1)) (gap_small (length x) (length v - 1) small l))
    ∙ ap (λ t. bytes_eq t v) (places_drop (length x) (length v - 1) 1 x)
    ∙ (let e : length x - (length v - 1 + 1) ≡ length x - length v = omega arith in ap (λ n. bytes_eq (drop n x) v) e)
    ∙ sym (ends_drop x v)
suffix_at x v some small (inr ge) =
    let z : length x - length v ≡ 0 = omega arith in
    ap (λ n. bytes_eq (substring_from x (num_sub n (whole (pos (length v - 1))))) v) (in_it (pos (length x)) small)
    ∙ ap (λ n. bytes_eq (substring_from x (num_sub (Whole (pos (length x))) n)) v) (out_of_it (pos (length v - 1)) ge)
    ∙ differ [] v (λ h. omega arith)
    ∙ sym (ends_drop x v ∙ ap (λ n. bytes_eq (drop n x) v) z ∙ differ x v (λ h. omega arith))

either_size : (k : ℕ) → (k < 2 ^ 53) ⊎ (2 ^ 53 ≤ k)
either_size k = cases_lt k (2 ^ 53)

pub suffix_same : (x v : List ℕ) → is_empty v ≡ false → length x < 2 ^ 53
    → bytes_eq (substring_from x (num_sub (whole (pos (length x))) (whole (pos (length v - 1))))) v ≡ ends_with x v
suffix_same x v some small = suffix_at x v (some_length v some) small (either_size (length v - 1))
