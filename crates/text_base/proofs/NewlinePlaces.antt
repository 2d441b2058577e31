-- The newlines from left to right are those by places.
use Rattle.std.proofs.Common.{◌≡◌, ℕ, zero, suc, ◌+◌, ◌-◌, Bool, true, false, not, cond, List, ◌∷◌, length, get_or, drop, map, refl, sym, ◌∙◌, ap, arith, inl, inr}
use Rattle.std.specs.Prelude.{◌==◌, ◌&&◌}
use Rattle.std.specs.List.{range_with_len, filter}
use Rattle.std.proofs.lemmas.Bool.{cases_Bool, and_left, and_right}
use Rattle.std.proofs.lemmas.List.{drop_more, drop_all}
use Rattle.text_base.specs.inner.Newlines.{newlines_after}
use Rattle.text_base.specs.Decoding.{is_kept, newline_for, newlines}

module _ (bytes : List ℕ) where
  abbrev at : ℕ → ℕ
  at i = get_or bytes i 0

  abbrev written : List ℕ → List ℕ
  written places = map (λ i. newline_for (at i)) (filter (is_kept bytes) places)

  kept_at : (i : ℕ) (places : List ℕ) → is_kept bytes i ≡ true → written (i ∷ places) ≡ newline_for (at i) ∷ written places
  kept_at i places h = ap (λ b. map (λ k. newline_for (at k)) (cond b (i ∷ filter (is_kept bytes) places) (filter (is_kept bytes) places))) h

  left_out : (i : ℕ) (places : List ℕ) → is_kept bytes i ≡ false → written (i ∷ places) ≡ written places
  left_out i places h = ap (λ b. map (λ k. newline_for (at k)) (cond b (i ∷ filter (is_kept bytes) places) (filter (is_kept bytes) places))) h

  -- whether a CR stands before i, as far as it counts there
  abbrev Tells : ℕ → Bool → Type 0
  Tells i after_cr = ((at i == 10) && (at (i - 1) == 13)) ≡ (after_cr && at i == 10)

  no_lf : (c : ℕ) → (c == 13) ≡ true → (c == 10) ≡ false
  no_lf c h = grind arith

  tells_cr : (i : ℕ) → (at i == 13) ≡ true → Tells (i + 1) true
  tells_cr i h = let same : i + 1 - 1 ≡ i = omega arith in
      ap (λ k. (at (i + 1) == 10) && (at k == 13)) same ∙ ap (λ b. (at (i + 1) == 10) && b) h ∙ turned (at (i + 1) == 10)
    where
      turned : (b : Bool) → (b && true) ≡ b
      turned true = refl
      turned false = refl

  tells_none : (i : ℕ) → (at i == 13) ≡ false → Tells (i + 1) false
  tells_none i h = let same : i + 1 - 1 ≡ i = omega arith in
      ap (λ k. (at (i + 1) == 10) && (at k == 13)) same ∙ and_right (at (i + 1) == 10) (at i == 13) h

  walk : (n i : ℕ) → i + n ≡ length bytes → (after_cr : Bool) → Tells i after_cr → written (range_with_len i n) ≡ newlines_after after_cr (drop i bytes)
  walk zero i sum after_cr tells = ap (newlines_after after_cr) (sym (drop_all i bytes (omega arith)))
  walk (suc n) i sum after_cr tells =
      let c = at i in
      let rest = drop (i + 1) bytes in
      let here : drop i bytes ≡ c ∷ rest = drop_more bytes i 0 (omega arith) in
      elim (cases_Bool (c == 13)) [
        | inl cr ↦
            kept_at i (range_with_len (i + 1) n) (ap not (and_left (c == 10) (at (i - 1) == 13) (no_lf c cr)))
            ∙ ap (λ b. cond b 10 c ∷ written (range_with_len (i + 1) n)) cr
            ∙ ap (λ t. 10 ∷ t) (walk n (i + 1) (omega arith) true (tells_cr i cr))
            ∙ ap (λ b. cond b (10 ∷ newlines_after true rest) (cond (after_cr && c == 10) (newlines_after false rest) (c ∷ newlines_after false rest))) (sym cr)
            ∙ ap (newlines_after after_cr) (sym here)
        | inr other ↦
            let later : written (range_with_len (i + 1) n) ≡ newlines_after false rest = walk n (i + 1) (omega arith) false (tells_none i other) in
            let read : newlines_after after_cr (drop i bytes) ≡ cond (after_cr && c == 10) (newlines_after false rest) (c ∷ newlines_after false rest) =
            ap (newlines_after after_cr) here
            ∙ ap (λ b. cond b (10 ∷ newlines_after true rest) (cond (after_cr && c == 10) (newlines_after false rest) (c ∷ newlines_after false rest))) other in
            elim (cases_Bool (after_cr && c == 10)) [
              | inl lf ↦
                  left_out i (range_with_len (i + 1) n) (ap not (tells ∙ lf)) ∙ later
                  ∙ ap (λ b. cond b (newlines_after false rest) (c ∷ newlines_after false rest)) (sym lf) ∙ sym read
              | inr plain ↦
                  kept_at i (range_with_len (i + 1) n) (ap not (tells ∙ plain))
                  ∙ ap (λ b. cond b 10 c ∷ written (range_with_len (i + 1) n)) other
                  ∙ ap (λ t. c ∷ t) later
                  ∙ ap (λ b. cond b (newlines_after false rest) (c ∷ newlines_after false rest)) (sym plain) ∙ sym read
            ]
      ]

  starts : Tells 0 false
  starts = elim (cases_Bool (at 0 == 10)) [
    | inl lf ↦ and_right (at 0 == 10) (at 0 == 13) (other (at 0) lf)
    | inr plain ↦ and_left (at 0 == 10) (at 0 == 13) plain
  ]
    where
      other : (c : ℕ) → (c == 10) ≡ true → (c == 13) ≡ false
      other c h = grind arith

  pub newlines_read : newlines bytes ≡ newlines_after false bytes
  newlines_read = walk (length bytes) 0 (omega arith) false starts
