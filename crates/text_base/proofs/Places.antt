-- The first place at which the rest of a text passes a test.
use Rattle.std.proofs.Common.{◌≡◌, ℕ, zero, suc, ◌+◌, ◌-◌, ◌<◌, ◌≤◌, Bool, true, false, cond, List, length, get_or, take, drop, sym, refl, ◌∙◌, ap, subst, arith, IsUtf8, get_or-drop, get_or-take, length-drop, length-take, drop-drop, inl, inr}
use Rattle.std.specs.Prelude.{Some, None}
use Rattle.std.specs.Str.{IsAscii}
use Rattle.std.proofs.lemmas.Bool.{cases_lt}
use Rattle.std.proofs.lemmas.List.{drop_more, drop_all}
use Rattle.std.proofs.lemmas.Slice.Eq.{bytes_eq-Decides}
use Rattle.memchr.specs.Find.{FindsNeedle, OccursAt}
use Rattle.memchr.proofs.lemmas.MatchLemmas.{OccursAt-part, OccursAt-from_part}
use Rattle.text_base.specs.Text.{first_place, find_where, begins_with, IsPlace}
use Rattle.text_base.proofs.Boundaries.{before_ascii, after_ascii}

module _ (p : List ℕ → Bool) (text : List ℕ) where
  pub find_here : (i : ℕ) → i < length text → p (drop i text) ≡ true → find_where p text i ≡ i
  find_here i l h =
      let e = drop_more text i 0 l in
      let at : first_place p (drop i text) ≡ 0 = ap (first_place p) e ∙ ap (λ b. cond b 0 (1 + first_place p (drop (i + 1) text))) (sym (ap p e) ∙ h) in
      omega arith

  pub find_later : (i : ℕ) → i < length text → p (drop i text) ≡ false → find_where p text i ≡ find_where p text (i + 1)
  find_later i l h =
      let e = drop_more text i 0 l in
      let at : first_place p (drop i text) ≡ 1 + first_place p (drop (i + 1) text) = ap (first_place p) e ∙ ap (λ b. cond b 0 (1 + first_place p (drop (i + 1) text))) (sym (ap p e) ∙ h) in
      omega arith

  pub find_end : (i : ℕ) → length text ≤ i → find_where p text i ≡ i
  find_end i l = let at : first_place p (drop i text) ≡ 0 = ap (first_place p) (drop_all i text l) in omega arith

  -- places where the test fails are passed over
  find_past_by : (n i j : ℕ) → j ≡ i + n → j ≤ length text → ((k : ℕ) → i ≤ k → k < j → p (drop k text) ≡ false) → find_where p text i ≡ find_where p text j
  find_past_by zero i j at fits fails = ap (find_where p text) (omega arith)
  find_past_by (suc n) i j at fits fails = find_later i (omega arith) (fails i (omega arith) (omega arith)) ∙ find_past_by n (i + 1) j (omega arith) fits (λ k low high. fails k (omega arith) high)

  pub find_past : (i j : ℕ) → i ≤ j → j ≤ length text → ((k : ℕ) → i ≤ k → k < j → p (drop k text) ≡ false) → find_where p text i ≡ find_where p text j
  find_past i j low fits fails = find_past_by (j - i) i j (omega arith) fits fails

  pub find_is : (i j : ℕ) → i ≤ j → j < length text → ((k : ℕ) → i ≤ k → k < j → p (drop k text) ≡ false) → p (drop j text) ≡ true → find_where p text i ≡ j
  find_is i j low below fails passes = find_past i j low (omega arith) fails ∙ find_here j below passes

  pub find_none : (i : ℕ) → i ≤ length text → ((k : ℕ) → i ≤ k → k < length text → p (drop k text) ≡ false) → find_where p text i ≡ length text
  find_none i low fails = find_past i (length text) low (omega arith) fails ∙ find_end (length text) (omega arith)

  -- the place that is found is no earlier, and where it is in the text, the test passes
  abbrev pub IsFoundFrom : ℕ → Type 0
  IsFoundFrom i = (i ≤ find_where p text i) × (find_where p text i ≤ length text) × (find_where p text i < length text → p (drop (find_where p text i) text) ≡ true)

  found_test : (i : ℕ) (b : Bool) → p (drop i text) ≡ b → i < length text → IsFoundFrom (i + 1) → IsFoundFrom i
  found_test i true h l later = let e = find_here i l h in (omega arith, omega arith, λ _. ap (λ k. p (drop k text)) e ∙ h)
  found_test i false h l later =
      let e = find_later i l h in
      (omega (arith, later.0), omega (arith, later.1), λ b. ap (λ k. p (drop k text)) e ∙ later.2 (omega arith))

  find_in_by : (n i : ℕ) → length text ≤ i + n → i ≤ length text → IsFoundFrom i
  find_in_by zero i far low = let e = find_end i (omega arith) in (omega arith, omega arith, λ l. absurd (omega arith))
  find_in_by (suc n) i far low =
      elim (cases_lt i (length text)) [
        | inl l ↦ found_test i (p (drop i text)) refl l (find_in_by n (i + 1) (omega arith) (omega arith))
        | inr past ↦ let e = find_end i past in (omega arith, omega arith, λ l. absurd (omega arith))
      ]

  pub find_in : (i : ℕ) → i ≤ length text → (i ≤ find_where p text i) × (find_where p text i ≤ length text) × (find_where p text i < length text → p (drop (find_where p text i) text) ≡ true)
  find_in i low = find_in_by (length text) i (omega arith) low

  pub find_moves : (i : ℕ) → i < length text → p (drop i text) ≡ false → i < find_where p text i
  find_moves i l h = omega (arith, find_later i l h, (find_in (i + 1) (omega arith)).0)

-- where an ASCII needle is found, the text may be cut before it and after it
module _ (text needle : List ℕ) (utf8 : IsUtf8 text) (ascii : IsAscii needle) (some : 0 < length needle) (i j : ℕ) (low : i ≤ length text) (e : j ≡ find_where (begins_with needle) text i) where
  here : j < length text → take (length needle) (drop j text) ≡ needle
  here l = subst (λ k. take (length needle) (drop k text) ≡ needle) (sym e) ((bytes_eq-Decides _ _).0 ((find_in (begins_with needle) text i low).2 (omega arith)))

  reads : j < length text → (k : ℕ) → k < length needle → (get_or text (j + k) 0 ≡ get_or needle k 0) × (j + length needle ≤ length text)
  reads l k h =
      let same = here l in (
        sym (get_or-drop j text k 0) ∙ sym (get_or-take (length needle) (drop j text) k 0 h) ∙ ap (λ s. get_or s k 0) same,
        omega (arith, ap length same, length-take (length needle) (drop j text), length-drop j text),
      )

  pub needle_place : IsPlace text j
  needle_place =
      elim (cases_lt j (length text)) [
        | inl l ↦ before_ascii text j l (let first = reads l 0 some in let at : get_or text (j + 0) 0 ≡ get_or text j 0 = ap (λ n. get_or text n 0) (omega arith) in omega (arith, ascii 0, first.0))
        | inr past ↦ record { within = omega (arith, (find_in (begins_with needle) text i low).1); starts = λ l. absurd (omega arith) }
      ]

  pub past_needle : j < length text → IsPlace text (j + length needle)
  past_needle l =
      let last = reads l (length needle - 1) (omega arith) in
      after_ascii text (j + (length needle - 1)) (j + length needle) utf8 (omega arith) (omega (arith, last.1)) (omega (arith, last.0, ascii (length needle - 1)))

not_true_false : (b : Bool) → (b ≡ true → ⊥) → b ≡ false
not_true_false true h = absurd (h refl)
not_true_false false h = refl

-- what a search for a needle gives
module _ (text needle : List ℕ) (from : ℕ) (low : from ≤ length text) (some : 0 < length needle) where
  apart : (k : ℕ) → from ≤ k → k < length text → (OccursAt (drop from text) needle (k - from) → ⊥) → begins_with needle (drop k text) ≡ false
  apart k i l h =
      not_true_false _ (λ yes.
      let rest : drop (k - from) (drop from text) ≡ drop k text = drop-drop (k - from) from text ∙ ap (λ n. drop n text) (omega arith) in
      let same : take (length needle) (drop k text) ≡ needle = (bytes_eq-Decides _ _).0 yes in
      h (OccursAt-from_part (drop from text) needle (k - from) (omega (arith, ap length same, length-take (length needle) (drop k text), length-drop k text, length-drop from text)) (ap (take (length needle)) rest ∙ same)))

  pub needle_none : FindsNeedle (drop from text) needle 0 None → find_where (begins_with needle) text from ≡ length text
  needle_none h = find_none (begins_with needle) text from low (λ k i l. apart k i l (h (k - from) (omega arith) (omega (arith, length-drop from text))))

  pub needle_at : (k : ℕ) → FindsNeedle (drop from text) needle 0 (Some k) → find_where (begins_with needle) text from ≡ from + k
  needle_at k h =
      find_is (begins_with needle) text from (from + k) (omega arith) (omega (arith, h.1.fits, length-drop from text))
      (λ m i l. apart m i (omega (arith, h.1.fits, length-drop from text)) (h.0.before (m - from) (omega arith) (omega arith)))
      ((bytes_eq-Decides _ _).1 (ap (take (length needle)) (sym (drop-drop k from text)) ∙ OccursAt-part (drop from text) needle k h.1))
