-- The part of a line up to its end, and so many of its first characters.
use Rattle.std.proofs.Common.{◌≡◌, ℕ, zero, suc, ◌+◌, ◌<◌, Bool, true, false, not, cond, List, [], ◌∷◌, ◌++◌, length, get_or, take, drop, refl, sym, ◌∙◌, ap, arith, inl, inr}
use Rattle.std.specs.List.{position_or_len, before_first, AllByRecursion}
use Rattle.std.proofs.lemmas.Bool.{cases_Bool}
use Rattle.std.proofs.lemmas.List.{take-append-drop, drop_more}

module _ (p : ℕ → Bool) where
  first_passes : (c : ℕ) (cs : List ℕ) → p c ≡ true → before_first p (c ∷ cs) ≡ []
  first_passes c cs h = ap (λ b. take (cond (not b) (1 + position_or_len p cs) 0) (c ∷ cs)) h

  first_fails : (c : ℕ) (cs : List ℕ) → p c ≡ false → before_first p (c ∷ cs) ≡ c ∷ before_first p cs
  first_fails c cs h =
      ap (λ b. take (cond (not b) (1 + position_or_len p cs) 0) (c ∷ cs)) h
      ∙ ap (λ k. take k (c ∷ cs)) (let more : 1 + position_or_len p cs ≡ suc (position_or_len p cs) = omega arith in more)

  -- the first n of those before the first that passes are, of the first n, those before it
  pub take_before : (n : ℕ) (cs : List ℕ) → take n (before_first p cs) ≡ before_first p (take n cs)
  take_before zero cs = refl
  take_before (suc n) [] = refl
  take_before (suc n) (c ∷ cs) =
      elim (cases_Bool (p c)) [
        | inl h ↦ ap (take (suc n)) (first_passes c cs h) ∙ sym (first_passes c (take n cs) h)
        | inr h ↦ ap (take (suc n)) (first_fails c cs h) ∙ ap (λ s. c ∷ s) (take_before n cs) ∙ sym (first_fails c (take n cs) h)
      ]

  pub none_passes : (cs : List ℕ) → AllByRecursion (λ c. p c ≡ false) cs → before_first p cs ≡ cs
  none_passes [] h = refl
  none_passes (c ∷ cs) h = first_fails c cs h.0 ∙ ap (λ s. c ∷ s) (none_passes cs h.1)

  stops : (ys : List ℕ) (c : ℕ) (rest : List ℕ) → AllByRecursion (λ c. p c ≡ false) ys → p c ≡ true → before_first p (ys ++ c ∷ rest) ≡ ys
  stops [] c rest h e = first_passes c rest e
  stops (y ∷ ys) c rest h e = first_fails y (ys ++ c ∷ rest) h.0 ∙ ap (λ s. y ∷ s) (stops ys c rest h.1 e)

  -- the first k fail, and the next one passes
  pub one_passes : (xs ys : List ℕ) (c : ℕ) → ys ≡ take (length ys) xs → length ys < length xs → c ≡ get_or xs (length ys) c → AllByRecursion (λ c. p c ≡ false) ys → p c ≡ true → before_first p xs ≡ ys
  one_passes xs ys c front low next h e =
      let k = length ys in
      ap (before_first p) (sym (take-append-drop k xs) ∙ ap (λ s. s ++ drop k xs) (sym front) ∙ ap (λ s. ys ++ s) (drop_more xs k c low ∙ ap (λ d. d ∷ drop (k + 1) xs) (sym next)))
      ∙ stops ys c (drop (k + 1) xs) h e

  -- one more that fails
  pub all_more : (ys : List ℕ) (c : ℕ) → AllByRecursion (λ c. p c ≡ false) ys → p c ≡ false → AllByRecursion (λ c. p c ≡ false) (ys ++ c ∷ [])
  all_more [] c h e = (e, tt)
  all_more (y ∷ ys) c h e = (h.0, all_more ys c h.1 e)
