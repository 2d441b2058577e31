-- Where a run of bytes ends.
use Rattle.std.proofs.Common.{◌≡◌, ℕ, ◌+◌, ◌-◌, ◌<◌, ◌≤◌, Bool, true, false, not, List, length, get_or, drop, sym, refl, ◌∙◌, ap, arith, length-drop, get_or-drop}
use Rattle.std.specs.Prelude.{Some, None}
use Rattle.std.specs.List.{prefix_len}
use Rattle.std.proofs.lemmas.List.Sums.{prefix_len-drop_yes, prefix_len-drop_no, prefix_len-drop_all, prefix_len-le-length, prefix_len_is, prefix_len_passes, prefix_len_stops}
use Rattle.memchr.specs.Find.{Passes, is_byte, IsFirstByte}
use Rattle.text_base.specs.Text.{run_end, is_not_byte}

module _ (p : ℕ → Bool) (text : List ℕ) where
  -- a byte that passes is one more of the run
  pub run_end_step : (i : ℕ) → i < length text → p (get_or text i 0) ≡ true → run_end p text i ≡ run_end p text (i + 1)
  run_end_step i l h = omega (arith, prefix_len-drop_yes p text i 0 l h)

  -- one that fails ends it
  pub run_end_stop : (i : ℕ) → i < length text → p (get_or text i 0) ≡ false → run_end p text i ≡ i
  run_end_stop i l h = omega (arith, prefix_len-drop_no p text i 0 l h)

  -- and so does the end of the text
  pub run_end_end : (i : ℕ) → length text ≤ i → run_end p text i ≡ i
  run_end_end i l = omega (arith, prefix_len-drop_all p text i l)

  -- a run of bytes that pass, up to a byte that fails or the end
  pub run_end_is : (i j : ℕ) → i ≤ j → j ≤ length text → ((k : ℕ) → i ≤ k → k < j → p (get_or text k 0) ≡ true) → (j < length text → p (get_or text j 0) ≡ false) → run_end p text i ≡ j
  run_end_is i j low fits passes stops =
      let e : prefix_len p (drop i text) ≡ j - i =
      prefix_len_is p (drop i text) (j - i) 0 (omega (arith, length-drop i text))
      (λ k h. ap p (get_or-drop i text k 0) ∙ passes (i + k) (omega arith) (omega arith))
      (λ h. ap p (get_or-drop i text (j - i) 0 ∙ ap (λ n. get_or text n 0) (omega arith)) ∙ stops (omega (arith, length-drop i text))) in
      omega arith

  -- a run stays in the text, its bytes pass, and the byte after it fails
  pub run_end_from : (i : ℕ) → i ≤ run_end p text i
  run_end_from i = omega arith

  pub run_end_moves : (i j : ℕ) → j ≡ run_end p text i → i < length text → p (get_or text i 0) ≡ true → i < j
  run_end_moves i j e l h = omega (arith, run_end_step i l h, run_end_from (i + 1))

  pub run_end_le : (i : ℕ) → i ≤ length text → run_end p text i ≤ length text
  run_end_le i l = omega (arith, prefix_len-le-length p (drop i text), length-drop i text)

  pub run_end_passes : (i k : ℕ) → i ≤ k → k < run_end p text i → p (get_or text k 0) ≡ true
  run_end_passes i k low high =
      ap p (ap (λ n. get_or text n 0) (omega arith) ∙ sym (get_or-drop i text (k - i) 0))
      ∙ prefix_len_passes p (drop i text) (k - i) 0 (omega arith)

  pub run_end_stops : (i : ℕ) → run_end p text i < length text → p (get_or text (run_end p text i) 0) ≡ false
  run_end_stops i l =
      ap p (sym (get_or-drop i text (prefix_len p (drop i text)) 0))
      ∙ prefix_len_stops p (drop i text) 0 (omega (arith, length-drop i text))

pub not_true : (b : Bool) → (b ≡ true → ⊥) → not b ≡ true
not_true true h = absurd (h refl)
not_true false h = refl

-- what a search from a place gives, as where a run of other bytes ends
module _ (byte : ℕ) (text : List ℕ) (from : ℕ) (low : from ≤ length text) where
  -- the byte at k is another
  other : (k : ℕ) → from ≤ k → (Passes (is_byte byte) (drop from text) (k - from) → ⊥) → is_not_byte byte (get_or text k 0) ≡ true
  other k i h =
      let e : get_or (drop from text) (k - from) 0 ≡ get_or text k 0 = get_or-drop from text (k - from) 0 ∙ ap (λ n. get_or text n 0) (omega arith) in
      not_true _ (λ yes. h (ap (is_byte byte) e ∙ yes))

  pub not_found : IsFirstByte (is_byte byte) (drop from text) None → run_end (is_not_byte byte) text from ≡ length text
  not_found h = run_end_is (is_not_byte byte) text from (length text) low (omega arith) (λ k i j. other k i (h (k - from) (omega arith) (omega (arith, length-drop from text)))) (λ h. absurd (omega arith))

  pub found_at : (k : ℕ) → IsFirstByte (is_byte byte) (drop from text) (Some k) → run_end (is_not_byte byte) text from ≡ from + k
  found_at k h = run_end_is (is_not_byte byte) text from (from + k) (omega arith) (omega (arith, h.0.high, length-drop from text))
      (λ m i j. other m i (h.0.before (m - from) (omega arith) (omega arith)))
      (λ l. ap not (ap (is_byte byte) (sym (get_or-drop from text k 0)) ∙ h.1))
