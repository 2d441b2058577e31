-- What stands at a place of a text, by what the rest of the text begins with.
use Rattle.std.proofs.Common.{◌≡◌, ℕ, zero, suc, ◌+◌, ◌-◌, ◌<◌, ◌≤◌, Bool, true, false, List, ◌∷◌, ◌++◌, length, get_or, take, drop, sym, refl, ◌∙◌, ap, arith, get_or-drop, drop-drop, add-zero}
use Rattle.std.specs.Prelude.{slice_range}
use Rattle.std.proofs.lemmas.List.{drop_more, take-append-drop}
use Rattle.std.proofs.Math.Seq.{drop-append_seam, take-append_seam}
use Rattle.text_base.specs.Text.{find_where}
use Rattle.text_base.proofs.Boundaries.{in_text}
use Rattle.text_base.proofs.Places.{find_here, find_later, find_in}

module _ (text : List ℕ) where
  -- a byte and the rest after it
  pub rest_byte : (i b : ℕ) (y : List ℕ) → drop i text ≡ b ∷ y → get_or text i 0 ≡ b
  rest_byte i b y h = ap (λ n. get_or text n 0) (sym (add-zero i)) ∙ sym (get_or-drop i text 0 0) ∙ ap (λ s. get_or s 0 0) h

  pub byte_rest : (i j b : ℕ) → j ≡ i + 1 → 0 < b → get_or text i 0 ≡ b → drop i text ≡ b ∷ drop j text
  byte_rest i j b e some h =
      drop_more text i 0 (in_text text i (omega arith)) ∙ ap (λ c. c ∷ drop (i + 1) text) h ∙ ap (λ n. b ∷ drop n text) (sym e)

  -- a list and the rest after it
  pub rest_past : (i j : ℕ) (x y : List ℕ) → j ≡ i + length x → drop i text ≡ x ++ y → drop j text ≡ y
  rest_past i j x y at h =
      ap (λ n. drop n text) (let e : j ≡ _ = omega arith in e) ∙ sym (drop-drop (length x) i text) ∙ ap (drop (length x)) h ∙ drop-append_seam x y

  pub rest_slice : (i j : ℕ) (x y : List ℕ) → j ≡ i + length x → drop i text ≡ x ++ y → slice_range text i j ≡ x
  rest_slice i j x y at h =
      ap (λ n. take n (drop i text)) (let e : j - i ≡ length x = omega arith in e) ∙ ap (take (length x)) h ∙ take-append_seam x y

  pub slice_rest : (i j : ℕ) → i ≤ j → drop i text ≡ slice_range text i j ++ drop j text
  slice_rest i j l =
      sym (take-append-drop (j - i) (drop i text)) ∙ ap (λ r. slice_range text i j ++ r) (drop-drop (j - i) i text ∙ ap (λ n. drop n text) (let e : _ ≡ j = omega arith in e))

-- before the place that is found the test fails
module _ (p : List ℕ → Bool) (text : List ℕ) where
  first_by : (n i k : ℕ) → k ≡ i + n → k < find_where p text i → k < length text → p (drop k text) ≡ true → ⊥
  first_by zero i k e l below h =
      let g : i ≡ k = omega arith in
      let f = find_here p text i (omega arith) (ap (λ j. p (drop j text)) g ∙ h) in omega arith
  first_by (suc n) i k e l below h = here (p (drop i text)) refl (λ m. first_by n (i + 1) k (omega arith) m below h)
    where
      here : (b : Bool) → p (drop i text) ≡ b → (k < find_where p text (i + 1) → ⊥) → ⊥
      here true is later = let f = find_here p text i (omega arith) is in omega arith
      here false is later = let f = find_later p text i (omega arith) is in later (omega arith)

  pub find_first : (i k : ℕ) → i ≤ length text → i ≤ k → k < find_where p text i → p (drop k text) ≡ true → ⊥
  find_first i k low from l h = first_by (k - i) i k (omega arith) l (omega (arith, (find_in p text i low).1)) h
