-- References decoded, by place.
use Rattle.std.proofs.Common.{◌≡◌, ℕ, zero, suc, ◌+◌, ◌-◌, ◌<◌, ◌≤◌, false, List, [], ◌∷◌, ◌++◌, length, get_or, take, drop, append_assoc, sym, refl, ◌∙◌, ap, subst, arith, drop-drop, IsUtf8}
use Rattle.std.specs.Prelude.{Some, None, slice_range, encode_utf8}
use Rattle.std.proofs.lemmas.List.{drop_more}
use Rattle.std.proofs.lemmas.Bool.Decides.{nat_tests}
use Rattle.text_base.specs.Text.{run_end, is_not_byte, IsPlace}
use Rattle.text_base.proofs.Boundaries.{after_ascii}
use Rattle.text_base.proofs.Runs.{run_end_from, run_end_le, run_end_passes, run_end_stops}
use Rattle.char_refs.specs.References.{reference_of, first_piece, more_bytes, decoded_past}
use Rattle.char_refs.proofs.ReferenceLemmas.{no_sign}

pub skip : (s : List ℕ) (n : ℕ) → decoded_past s n ≡ decoded_past (drop n s) 0
skip [] zero = refl
skip [] (suc n) = refl
skip (b ∷ s) zero = refl
skip (b ∷ s) (suc n) = skip s n

module _ (text : List ℕ) where
  step : (i : ℕ) → i < length text → decoded_past (drop i text) 0 ≡ first_piece (reference_of (drop i text)) (get_or text i 0) ++ decoded_past (drop (i + 1) text) (more_bytes (reference_of (drop i text)))
  step i l =
      let e = drop_more text i 0 l in
      ap (λ s. decoded_past s 0) e ∙ ap (λ s. first_piece (reference_of s) (get_or text i 0) ++ decoded_past (drop (i + 1) text) (more_bytes (reference_of s))) (sym e)

  -- where no reference stands the byte stays
  kept : (i : ℕ) → i < length text → None ≡ reference_of (drop i text) → decoded_past (drop i text) 0 ≡ get_or text i 0 ∷ decoded_past (drop (i + 1) text) 0
  kept i l none = step i l ∙ ap (λ o. first_piece o (get_or text i 0) ++ decoded_past (drop (i + 1) text) (more_bytes o)) (sym none)

  kept_by : (n i : ℕ) → i + n ≤ length text → ((k : ℕ) → i ≤ k → k < i + n → get_or text k 0 ≡ 38 → ⊥) → decoded_past (drop i text) 0 ≡ take n (drop i text) ++ decoded_past (drop (i + n) text) 0
  kept_by zero i l h = ap (λ k. decoded_past (drop k text) 0) (omega arith)
  kept_by (suc n) i l h =
      let first = kept i (omega arith) (no_sign text i (h i (omega arith) (omega arith))) in
      let later = kept_by n (i + 1) (omega arith) (λ k low high. h k (omega arith) (omega arith)) in
      let cut : take (suc n) (drop i text) ≡ get_or text i 0 ∷ take n (drop (i + 1) text) = ap (take (suc n)) (drop_more text i 0 (omega arith)) in
      first ∙ ap (λ r. get_or text i 0 ∷ r) (later ∙ ap (λ k. take n (drop (i + 1) text) ++ decoded_past (drop k text) 0) (omega arith)) ∙ ap (λ x. x ++ decoded_past (drop (i + suc n) text) 0) (sym cut)

  up_to_sign : (i j : ℕ) → i ≤ length text → j ≡ run_end (is_not_byte 38) text i → decoded_past (drop i text) 0 ≡ slice_range text i j ++ decoded_past (drop j text) 0
  up_to_sign i j low e =
      let from = run_end_from (is_not_byte 38) text i in
      kept_by (j - i) i (omega (arith, run_end_le (is_not_byte 38) text i low)) (λ k a b sign. let t = run_end_passes (is_not_byte 38) text i k a (omega arith) in grind (arith, nat_tests))
      ∙ ap (λ k. slice_range text i j ++ decoded_past (drop k text) 0) (omega arith)

  sign_at : (i j : ℕ) → j ≡ run_end (is_not_byte 38) text i → j < length text → get_or text j 0 ≡ 38
  sign_at i j e l = let t = subst (λ n. is_not_byte 38 (get_or text n 0) ≡ false) (sym e) (run_end_stops (is_not_byte 38) text i (omega arith)) in grind (arith, nat_tests)

  pub past_sign : (i j k : ℕ) → IsUtf8 text → j ≡ run_end (is_not_byte 38) text i → j < length text → k ≡ j + 1 → IsPlace text k
  past_sign i j k utf8 e l is = after_ascii text j k utf8 is l (omega (arith, sign_at i j e l))

  pub no_more : (i j : ℕ) (old new : List ℕ) → i ≤ length text → j ≡ run_end (is_not_byte 38) text i → new ≡ old ++ slice_range text i j → new ++ decoded_past (drop j text) 0 ≡ old ++ decoded_past (drop i text) 0
  no_more i j old new low e was =
      ap (λ x. x ++ decoded_past (drop j text) 0) was ∙ append_assoc old (slice_range text i j) (decoded_past (drop j text) 0) ∙ ap (λ x. old ++ x) (sym (up_to_sign i j low e))

  one_more : (i j n : ℕ) (piece old mid new : List ℕ) → i ≤ length text → j ≡ run_end (is_not_byte 38) text i → mid ≡ old ++ slice_range text i j → new ≡ mid ++ piece → decoded_past (drop j text) 0 ≡ piece ++ decoded_past (drop (j + n) text) 0 → new ++ decoded_past (drop (j + n) text) 0 ≡ old ++ decoded_past (drop i text) 0
  one_more i j n piece old mid new low e was more now =
      ap (λ x. x ++ decoded_past (drop (j + n) text) 0) more ∙ append_assoc mid piece (decoded_past (drop (j + n) text) 0) ∙ ap (λ x. mid ++ x) (sym now) ∙ no_more i j old mid low e was

  pub with_reference : (i j : ℕ) (r : ℕ × ℕ) (old mid new : List ℕ) → i ≤ length text → j < length text → j ≡ run_end (is_not_byte 38) text i → Some r ≡ reference_of (drop j text) → 0 < r.1 → mid ≡ old ++ slice_range text i j → new ≡ mid ++ encode_utf8 r.0 → new ++ decoded_past (drop (j + r.1) text) 0 ≡ old ++ decoded_past (drop i text) 0
  with_reference i j r old mid new low l e stands some was more =
      one_more i j r.1 (encode_utf8 r.0) old mid new low e was more (
      step j l ∙ ap (λ o. first_piece o (get_or text j 0) ++ decoded_past (drop (j + 1) text) (more_bytes o)) (sym stands)
      ∙ ap (λ x. encode_utf8 r.0 ++ x) (skip (drop (j + 1) text) (r.1 - 1) ∙ ap (λ s. decoded_past s 0) (drop-drop (r.1 - 1) (j + 1) text ∙ ap (λ k. drop k text) (let f : _ ≡ j + r.1 = omega arith in f))))

  pub with_sign : (i j : ℕ) (old mid new : List ℕ) → i ≤ length text → j < length text → j ≡ run_end (is_not_byte 38) text i → None ≡ reference_of (drop j text) → mid ≡ old ++ slice_range text i j → new ≡ mid ++ 38 ∷ [] → new ++ decoded_past (drop (j + 1) text) 0 ≡ old ++ decoded_past (drop i text) 0
  with_sign i j old mid new low l e none was more =
      one_more i j 1 (38 ∷ []) old mid new low e was more (kept j l none ∙ ap (λ b. b ∷ decoded_past (drop (j + 1) text) 0) (sign_at i j e l))
