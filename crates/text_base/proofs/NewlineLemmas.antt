-- Newlines, by place.
use Rattle.std.proofs.Common.{◌≡◌, ℕ, zero, suc, ◌+◌, ◌-◌, ◌<◌, ◌≤◌, Bool, true, false, not, cond, List, [], ◌∷◌, ◌++◌, length, get_or, take, drop, eqb-true, ne_eqb, append_assoc, IsUtf8, sym, refl, ◌∙◌, ap, subst, arith, inl, inr}
use lib.Utf8.{encode}
use Rattle.std.specs.Prelude.{◌==◌, slice_range}
use Rattle.std.proofs.lemmas.Bool.{cases_lt}
use Rattle.std.proofs.lemmas.List.{drop_more, drop_all}
use Rattle.text_base.specs.Text.{run_end, is_not_byte, IsPlace}
use Rattle.text_base.proofs.Boundaries.{in_text, past_byte}
use Rattle.text_base.proofs.Runs.{run_end_from, run_end_le, run_end_passes, run_end_stops}
use Rattle.std.proofs.Common.{ltb, Ok, Err}
use Rattle.std.specs.Prelude.{encode_utf8, Some, None}
use Rattle.std.specs.Str.Lossy.{utf8_valid_len}
use Rattle.std.proofs.lemmas.Str.{IsCharBoundary-past_char}
use Rattle.text_base.proofs.Boundaries.{place}
use Rattle.text_base.proofs.Runs.{not_found, found_at}
use Rattle.memchr.specs.Find.{IsFirstByte, is_byte}
use Rattle.text_base.specs.declared.reasons.PageReason.TheVariants.{NotUtf8, Nul}
use Rattle.text_base.specs.inner.Newlines.{newlines_after}
use Rattle.text_base.specs.Decoding.{newlines, without_mark, decoded, fault}

lt-ltb : (a b : ℕ) → a < b → ltb a b ≡ true
lt-ltb a b l = grind arith

le-ltb_false : (a b : ℕ) → b ≤ a → ltb a b ≡ false
le-ltb_false a b l = grind arith

is_false : (b : Bool) → not b ≡ true → b ≡ false
is_false true h = sym h
is_false false h = refl

is_true : (b : Bool) → not b ≡ false → b ≡ true
is_true true h = refl
is_true false h = sym h

module _ (text : List ℕ) where
  -- a byte that is no CR stays
  kept : (i : ℕ) → i < length text → (get_or text i 0 == 13) ≡ false → newlines_after false (drop i text) ≡ get_or text i 0 ∷ newlines_after false (drop (i + 1) text)
  kept i l h =
      ap (newlines_after false) (drop_more text i 0 l)
      ∙ ap (λ b. cond b (10 ∷ newlines_after true (drop (i + 1) text)) (get_or text i 0 ∷ newlines_after false (drop (i + 1) text))) h

  kept_by : (n i : ℕ) → i + n ≤ length text → ((k : ℕ) → i ≤ k → k < i + n → (get_or text k 0 == 13) ≡ false) → newlines_after false (drop i text) ≡ take n (drop i text) ++ newlines_after false (drop (i + n) text)
  kept_by zero i l h = ap (λ k. newlines_after false (drop k text)) (omega arith)
  kept_by (suc n) i l h =
      let first = kept i (omega arith) (h i (omega arith) (omega arith)) in
      let later = kept_by n (i + 1) (omega arith) (λ k low high. h k (omega arith) (omega arith)) in
      let cut : take (suc n) (drop i text) ≡ get_or text i 0 ∷ take n (drop (i + 1) text) = ap (take (suc n)) (drop_more text i 0 (omega arith)) in
      first ∙ ap (λ r. get_or text i 0 ∷ r) (later ∙ ap (λ k. take n (drop (i + 1) text) ++ newlines_after false (drop k text)) (omega arith)) ∙ ap (λ x. x ++ newlines_after false (drop (i + suc n) text)) (sym cut)

  -- up to the next CR all bytes stay
  pub up_to_cr : (i j : ℕ) → i ≤ length text → j ≡ run_end (is_not_byte 13) text i → newlines_after false (drop i text) ≡ slice_range text i j ++ newlines_after false (drop j text)
  up_to_cr i j low e =
      let from = run_end_from (is_not_byte 13) text i in
      kept_by (j - i) i (omega (arith, run_end_le (is_not_byte 13) text i low)) (λ k a b. is_false _ (run_end_passes (is_not_byte 13) text i k a (omega arith)))
      ∙ ap (λ k. slice_range text i j ++ newlines_after false (drop k text)) (omega arith)

  pub none_left : (i j : ℕ) → length text ≤ j → newlines_after false (drop j text) ≡ []
  none_left i j l = ap (newlines_after false) (drop_all j text l)

  -- a run that ends within the text ends at a CR
  pub cr_is : (i j : ℕ) → j ≡ run_end (is_not_byte 13) text i → j < length text → (get_or text j 0 == 13) ≡ true
  cr_is i j e l = is_true (get_or text j 0 == 13) (subst (λ n. is_not_byte 13 (get_or text n 0) ≡ false) (sym e) (run_end_stops (is_not_byte 13) text i (omega arith)))

  cr_at : (i j : ℕ) → j ≡ run_end (is_not_byte 13) text i → j < length text → newlines_after false (drop j text) ≡ 10 ∷ newlines_after true (drop (j + 1) text)
  cr_at i j e l =
      ap (newlines_after false) (drop_more text j 0 l)
      ∙ ap (λ b. cond b (10 ∷ newlines_after true (drop (j + 1) text)) (get_or text j 0 ∷ newlines_after false (drop (j + 1) text))) (cr_is i j e l)

  -- after a CR
  after_lf : (j : ℕ) → get_or text (j + 1) 0 ≡ 10 → newlines_after true (drop (j + 1) text) ≡ newlines_after false (drop (j + 2) text)
  after_lf j lf =
      ap (newlines_after true) (drop_more text (j + 1) 0 (in_text text (j + 1) (omega arith)))
      ∙ ap (λ b. newlines_after true (b ∷ drop (j + 1 + 1) text)) lf
      ∙ ap (λ n. newlines_after false (drop n text)) (omega arith)

  after_other : (j : ℕ) → (get_or text (j + 1) 0 ≡ 10 → ⊥) → newlines_after true (drop (j + 1) text) ≡ newlines_after false (drop (j + 1) text)
  after_other j other =
      elim (cases_lt (j + 1) (length text)) [
        | inl l ↦
            let e = drop_more text (j + 1) 0 l in
            let b = get_or text (j + 1) 0 in
            let rest = drop (j + 1 + 1) text in
            ap (newlines_after true) e
            ∙ ap (λ t. cond (b == 13) (10 ∷ newlines_after true rest) (cond t (newlines_after false rest) (b ∷ newlines_after false rest))) (ne_eqb b 10 other)
            ∙ sym (ap (newlines_after false) e)
        | inr past ↦ let none = drop_all (j + 1) text past in ap (newlines_after true) none ∙ sym (ap (newlines_after false) none)
      ]

  -- a line is written, without its newline and with it
  pub last_line : (i j : ℕ) (old new : List ℕ) → i ≤ length text → j ≡ run_end (is_not_byte 13) text i → new ≡ old ++ slice_range text i j → new ++ newlines_after false (drop j text) ≡ old ++ newlines_after false (drop i text)
  last_line i j old new low e was =
      ap (λ x. x ++ newlines_after false (drop j text)) was ∙ append_assoc old (slice_range text i j) (newlines_after false (drop j text)) ∙ ap (λ x. old ++ x) (sym (up_to_cr i j low e))

  one_line : (i j : ℕ) (old mid new rest : List ℕ) → i ≤ length text → j ≡ run_end (is_not_byte 13) text i → mid ≡ old ++ slice_range text i j → new ≡ mid ++ 10 ∷ [] → newlines_after false (drop j text) ≡ 10 ∷ rest → new ++ rest ≡ old ++ newlines_after false (drop i text)
  one_line i j old mid new rest low e was pushed is =
      ap (λ x. x ++ rest) pushed ∙ append_assoc mid (10 ∷ []) rest ∙ ap (λ x. mid ++ x) (sym is) ∙ last_line i j old mid low e was

  pub line_with_lf : (i j : ℕ) (old mid new : List ℕ) → i ≤ length text → j ≡ run_end (is_not_byte 13) text i → j < length text → mid ≡ old ++ slice_range text i j → new ≡ mid ++ 10 ∷ [] → get_or text (j + 1) 0 ≡ 10 → new ++ newlines_after false (drop (j + 2) text) ≡ old ++ newlines_after false (drop i text)
  line_with_lf i j old mid new low e l was pushed lf = one_line i j old mid new _ low e was pushed (cr_at i j e l ∙ ap (λ r. 10 ∷ r) (after_lf j lf))

  pub line_with_cr : (i j : ℕ) (old mid new : List ℕ) → i ≤ length text → j ≡ run_end (is_not_byte 13) text i → j < length text → mid ≡ old ++ slice_range text i j → new ≡ mid ++ 10 ∷ [] → (get_or text (j + 1) 0 ≡ 10 → ⊥) → new ++ newlines_after false (drop (j + 1) text) ≡ old ++ newlines_after false (drop i text)
  line_with_cr i j old mid new low e l was pushed other = one_line i j old mid new _ low e was pushed (cr_at i j e l ∙ ap (λ r. 10 ∷ r) (after_other j other))

  -- the place after a CR
  pub past_cr : (i j k : ℕ) → IsUtf8 text → j ≡ run_end (is_not_byte 13) text i → j < length text → k ≡ j + 1 → IsPlace text k
  past_cr i j k utf8 e l is =
      let cr = eqb-true (get_or text j 0) 13 (is_true (get_or text j 0 == 13) (subst (λ n. is_not_byte 13 (get_or text n 0) ≡ false) (sym e) (run_end_stops (is_not_byte 13) text i (omega arith)))) in
      past_byte text j k utf8 is (omega arith) (omega arith)

-- after the mark, whose three bytes are one character
pub past_mark : (text : List ℕ) → IsUtf8 text → get_or text 0 0 ≡ 0xef → get_or text 1 0 ≡ 0xbb → get_or text 2 0 ≡ 0xbf → IsPlace text 3
unfolding encode
past_mark text utf8 a b c =
    let first = drop_more text 0 0 (in_text text 0 (omega arith)) ∙ ap (λ x. x ∷ drop 1 text) a in
    let second = drop_more text 1 0 (in_text text 1 (omega arith)) ∙ ap (λ x. x ∷ drop 2 text) b in
    let third = drop_more text 2 0 (in_text text 2 (omega arith)) ∙ ap (λ x. x ∷ drop 3 text) c in
    let spelled : text ≡ encode_utf8 0xfeff ++ drop 3 text = first ∙ ap (λ r. 0xef ∷ r) (second ∙ ap (λ r. 0xbb ∷ r) third) in
    place text 3 (IsCharBoundary-past_char text (drop 3 text) 0 0xfeff (omega arith) utf8 spelled)

-- what is decoded, by the two places
pub decoded_nul : (bytes : List ℕ) (zero_at bad_at : ℕ) → zero_at ≡ run_end (is_not_byte 0) bytes 0 → bad_at ≡ utf8_valid_len bytes → zero_at < bad_at → decoded bytes ≡ Err (fault Nul zero_at)
decoded_nul bytes zero_at bad_at e f l = rw (sym e, sym f, lt-ltb zero_at bad_at l) refl

pub decoded_bad : (bytes : List ℕ) (zero_at bad_at : ℕ) → zero_at ≡ run_end (is_not_byte 0) bytes 0 → bad_at ≡ utf8_valid_len bytes → bad_at ≤ zero_at → bad_at < length bytes → decoded bytes ≡ Err (fault NotUtf8 bad_at)
decoded_bad bytes zero_at bad_at e f h l = rw (sym e, sym f, le-ltb_false zero_at bad_at h, lt-ltb bad_at (length bytes) l) refl

pub decoded_text : (bytes : List ℕ) (zero_at bad_at : ℕ) → zero_at ≡ run_end (is_not_byte 0) bytes 0 → bad_at ≡ utf8_valid_len bytes → bad_at ≤ zero_at → length bytes ≤ bad_at → decoded bytes ≡ Ok (newlines (without_mark bytes))
decoded_text bytes zero_at bad_at e f h l = rw (sym e, sym f, le-ltb_false zero_at bad_at h, le-ltb_false bad_at (length bytes) l) refl

pub zero_none : (bytes : List ℕ) → IsFirstByte (is_byte 0) bytes None → length bytes ≡ run_end (is_not_byte 0) bytes 0
zero_none bytes h = sym (not_found 0 bytes 0 (omega arith) h)

pub zero_some : (bytes : List ℕ) (k : ℕ) → IsFirstByte (is_byte 0) bytes (Some k) → k ≡ run_end (is_not_byte 0) bytes 0
zero_some bytes k h = sym (found_at 0 bytes 0 (omega arith) k h ∙ omega arith)
