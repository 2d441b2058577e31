-- `translate` from capital to small letters is ASCII lower case.
use Rattle.std.proofs.Common.{◌≡◌, refl, ℕ, zero, suc, ◌+◌, ◌-◌, ◌<◌, ◌≤◌, false, cond, eqb, ltb, List, [], ◌∷◌, ◌++◌, ap, sym, ◌∙◌, map, arith, ◌⊎◌, inl, inr, lt-ltb, Some, None}
use Rattle.std.specs.Prelude.{codes}
use Rattle.std.specs.Char.{to_ascii_lowercase}
use Rattle.std.specs.List.{range_with_len, position_from, slice_get}
use Rattle.std.specs.Option.{option_to_list}
use Rattle.std.proofs.lemmas.Bool.{le-ltb, cases_lt, eqb-true, false_from_ne_true}
use Rattle.std.proofs.lemmas.Bool.Decides.{eqb_tells}
use Rattle.xpath_values.specs.Strings.{translated, translated_char}

differ : (a b : ℕ) → (a ≡ b → ⊥) → eqb a b ≡ false
differ a b h = false_from_ne_true _ (λ t. h (eqb-true a b t))

place_in : (c a i n : ℕ) → a ≤ c → c < a + n → position_from (λ d. eqb d c) i (range_with_len a n) ≡ Some (i + (c - a))
place_in c a i zero low high = absurd (omega arith)
place_in c a i (suc n) low high = elim (eqb_tells a c) [
  | inl same ↦ (let e : i ≡ i + (c - a) = omega (arith, same.1) in
      ap (λ b. cond b (Some i) (position_from (λ d. eqb d c) (i + 1) (range_with_len (a + 1) n))) same.0 ∙ ap (λ v. Some v) e)
  | inr other ↦ (let ne : a ≡ c → ⊥ = other.1 in let more : a + 1 ≤ c = omega arith in let e : (i + 1) + (c - (a + 1)) ≡ i + (c - a) = omega arith in
      ap (λ b. cond b (Some i) (position_from (λ d. eqb d c) (i + 1) (range_with_len (a + 1) n))) other.0 ∙ place_in c (a + 1) (i + 1) n more (omega arith) ∙ ap (λ v. Some v) e)
]

no_place : (c a i n : ℕ) → (c < a) ⊎ (a + n ≤ c) → position_from (λ d. eqb d c) i (range_with_len a n) ≡ None
no_place c a i zero h = refl
no_place c a i (suc n) (inl l) =
    ap (λ b. cond b (Some i) (position_from (λ d. eqb d c) (i + 1) (range_with_len (a + 1) n))) (differ a c (λ e. omega arith)) ∙ no_place c (a + 1) (i + 1) n (inl (omega arith))
no_place c a i (suc n) (inr l) =
    ap (λ b. cond b (Some i) (position_from (λ d. eqb d c) (i + 1) (range_with_len (a + 1) n))) (differ a c (λ e. omega arith)) ∙ no_place c (a + 1) (i + 1) n (inr (omega arith))

letter_at : (a n i : ℕ) → i < n → slice_get (range_with_len a n) i ≡ Some (a + i)
letter_at a zero i h = absurd (omega arith)
letter_at a (suc n) zero h = ap (λ v. Some v) (let e : a ≡ a + 0 = omega arith in e)
letter_at a (suc n) (suc i) h = letter_at (a + 1) n i (omega arith) ∙ ap (λ v. Some v) (let e : (a + 1) + i ≡ a + suc i = omega arith in e)

lower_char : (c : ℕ) → translated_char (position_from (λ d. eqb d c) 0 (range_with_len 65 26)) c (range_with_len 97 26) ≡ to_ascii_lowercase c ∷ []
lower_char c = elim (cases_lt c 65) [
  | inl low ↦ ap (λ o. translated_char o c (range_with_len 97 26)) (no_place c 65 0 26 (inl low))
      ∙ ap (λ b. cond b c (cond (ltb c 91) (c + 32) c) ∷ []) (sym (lt-ltb c 65 low))
  | inr ge ↦ elim (cases_lt c 91) [
    | inl within ↦ (let e : 97 + (0 + (c - 65)) ≡ c + 32 = omega arith in
        ap (λ o. translated_char o c (range_with_len 97 26)) (place_in c 65 0 26 ge (omega arith))
        ∙ ap option_to_list (letter_at 97 26 (0 + (c - 65)) (omega arith)) ∙ ap (λ v. v ∷ []) e
        ∙ ap (λ b. cond false c (cond b (c + 32) c) ∷ []) (sym (lt-ltb c 91 within))
        ∙ ap (λ b. cond b c (cond (ltb c 91) (c + 32) c) ∷ []) (sym (le-ltb c 65 ge)))
    | inr past ↦ ap (λ o. translated_char o c (range_with_len 97 26)) (no_place c 65 0 26 (inr (omega arith)))
        ∙ ap (λ b. cond false c (cond b (c + 32) c) ∷ []) (sym (le-ltb c 91 past))
        ∙ ap (λ b. cond b c (cond (ltb c 91) (c + 32) c) ∷ []) (sym (le-ltb c 65 ge))
  ]
]

pub translated_lower : (s : List ℕ) → translated s (codes "ABCDEFGHIJKLMNOPQRSTUVWXYZ") (codes "abcdefghijklmnopqrstuvwxyz") ≡ map to_ascii_lowercase s
translated_lower [] = refl
translated_lower (c ∷ s) =
    ap (λ t. t ++ translated s (codes "ABCDEFGHIJKLMNOPQRSTUVWXYZ") (codes "abcdefghijklmnopqrstuvwxyz")) (lower_char c)
    ∙ ap (λ r. to_ascii_lowercase c ∷ r) (translated_lower s)
