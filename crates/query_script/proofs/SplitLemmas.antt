-- What stands before the first byte that passes a test and after it.
use Rattle.std.proofs.Common.{◌≡◌, ℕ, suc, ◌+◌, ◌-◌, ◌<◌, ◌≤◌, Bool, true, false, List, [], ◌∷◌, ◌++◌, length, take, drop, get_or, refl, ◌∙◌, ap, arith, length-drop}
use Rattle.std.specs.Prelude.{◌==◌, ◌||◌}
use Rattle.std.specs.List.{list_any, before_first, after_first, position_or_len, prefix_len, slice_range}
use Rattle.std.proofs.Math.Seq.{take-append_seam}
use Rattle.std.proofs.lemmas.List.{take_all, drop_all}
use Rattle.std.proofs.lemmas.List.Folds.{list_any_at}
use Rattle.std.proofs.lemmas.List.Sums.{passes_at_first}
use Rattle.std.proofs.lemmas.Bool.Decides.{nat_tests}
use Rattle.std.specs.Str.{IsUtf8}
use Rattle.text_base.specs.Text.{run_end, is_not_byte, IsPlace}
use Rattle.text_base.proofs.Boundaries.{past_ascii}
use Rattle.text_base.proofs.Runs.{run_end_stops}

pub none_there : (p : ℕ → Bool) (xs : List ℕ) → length xs ≤ position_or_len p xs → list_any p xs ≡ false
none_there p [] l = refl
none_there p (x ∷ xs) l = by_test (p x) refl (none_there p xs)
  where
    by_test : (b : Bool) → p x ≡ b → (length xs ≤ position_or_len p xs → list_any p xs ≡ false) → list_any p (x ∷ xs) ≡ false
    by_test true e ih = let at : position_or_len p (x ∷ xs) ≡ 0 = rw e refl in absurd (omega arith)
    by_test false e ih = let at : position_or_len p (x ∷ xs) ≡ 1 + position_or_len p xs = rw e refl in rw e (ih (omega arith))

beyond : (p : ℕ → Bool) (xs : List ℕ) → list_any p xs ≡ false → length xs ≤ position_or_len p xs
beyond p [] h = omega arith
beyond p (x ∷ xs) h = by_test (p x) refl (beyond p xs) h
  where
    by_test : (b : Bool) → p x ≡ b → (list_any p xs ≡ false → length xs ≤ position_or_len p xs) → (b || list_any p xs) ≡ false → length (x ∷ xs) ≤ position_or_len p (x ∷ xs)
    by_test true e ih g = cc
    by_test false e ih g = let at : position_or_len p (x ∷ xs) ≡ 1 + position_or_len p xs = rw e refl in let n = ih g in omega arith

-- nothing stands after what is not there
pub none_after : (p : ℕ → Bool) (xs : List ℕ) → list_any p xs ≡ false → after_first p xs ≡ []
none_after p xs h = let n = beyond p xs h in drop_all (position_or_len p xs + 1) xs (omega arith)

pub one_there : (p : ℕ → Bool) (xs : List ℕ) → position_or_len p xs < length xs → list_any p xs ≡ true
one_there p xs l = list_any_at p xs (position_or_len p xs) 0 l (passes_at_first p xs 0 l)

module _ (b : ℕ) (text : List ℕ) (at : ℕ) (e : at ≡ run_end (is_not_byte b) text 0) where
  first : at ≡ position_or_len (λ c. c == b) text
  first = let n : run_end (is_not_byte b) text 0 ≡ prefix_len (is_not_byte b) text = omega arith in e ∙ n

  pub split_none : length text ≤ at → list_any (λ c. c == b) text ≡ false
  split_none l = none_there (λ c. c == b) text (omega (arith, first))

  pub split_some : at < length text → list_any (λ c. c == b) text ≡ true
  split_some l = one_there (λ c. c == b) text (omega (arith, first))

  pub split_before : slice_range text 0 at ≡ before_first (λ c. c == b) text
  split_before = ap (λ k. take k text) (let n : at - 0 ≡ at = omega arith in n ∙ first)

  pub split_after : at < length text → slice_range text (at + 1) (length text) ≡ after_first (λ c. c == b) text
  split_after l = take_rest (at + 1) ∙ ap (λ k. drop (k + 1) text) first
    where
      whole : (xs : List ℕ) (n : ℕ) → length xs ≡ n → take n xs ≡ xs
      whole xs n h = take_all n xs (omega arith)

      take_rest : (k : ℕ) → slice_range text k (length text) ≡ drop k text
      take_rest k = whole (drop k text) (length text - k) (length-drop k text)

  -- the text may be cut after the byte
  pub past_found : IsUtf8 text → b < 128 → at < length text → IsPlace text (at + 1)
  past_found utf8 ascii l = past_ascii text at utf8 l (let here = found in omega arith)
    where
      is_byte : (c : ℕ) → is_not_byte b c ≡ false → c ≡ b
      is_byte c h = grind (arith, nat_tests)

      found : get_or text at 0 ≡ b
      found = is_byte (get_or text at 0) (ap (λ k. is_not_byte b (get_or text k 0)) e ∙ run_end_stops (is_not_byte b) text 0 (let n : run_end (is_not_byte b) text 0 < length text = omega arith in n))

-- ---- a list that is known by what stands before its first element that passes and after it

module _ (p : ℕ → Bool) (x : ℕ) (passes : p x ≡ true) where
  or_first : (a b : Bool) → (a || b) ≡ false → (a ≡ false) × (b ≡ false)
  or_first true b e = cc
  or_first false b e = (refl, e)

  first_place : (xs ys : List ℕ) → list_any p xs ≡ false → position_or_len p (xs ++ x ∷ ys) ≡ length xs
  first_place [] ys h = rw passes refl
  first_place (c ∷ xs) ys h =
      let two = or_first (p c) (list_any p xs) h in
      let rest = first_place xs ys two.1 in
      let here : position_or_len p (c ∷ (xs ++ x ∷ ys)) ≡ 1 + position_or_len p (xs ++ x ∷ ys) = rw two.0 refl in
      omega arith

  pub before_is : (xs ys : List ℕ) → list_any p xs ≡ false → before_first p (xs ++ x ∷ ys) ≡ xs
  before_is xs ys h = ap (λ k. take k (xs ++ x ∷ ys)) (first_place xs ys h) ∙ take-append_seam xs (x ∷ ys)

  pub after_is : (xs ys : List ℕ) → list_any p xs ≡ false → after_first p (xs ++ x ∷ ys) ≡ ys
  after_is xs ys h = ap (λ k. drop (k + 1) (xs ++ x ∷ ys)) (first_place xs ys h) ∙ past xs ys
    where
      past : (us vs : List ℕ) → drop (length us + 1) (us ++ x ∷ vs) ≡ vs
      past [] vs = refl
      past (u ∷ us) vs = ap (λ k. drop k (u ∷ (us ++ x ∷ vs))) (let n : length (u ∷ us) + 1 ≡ suc (length us + 1) = omega arith in n) ∙ past us vs

  pub one_is : (xs ys : List ℕ) → list_any p (xs ++ x ∷ ys) ≡ true
  one_is [] ys = rw passes refl
  one_is (c ∷ xs) ys = by_test (p c) (one_is xs ys)
    where
      by_test : (b : Bool) → list_any p (xs ++ x ∷ ys) ≡ true → (b || list_any p (xs ++ x ∷ ys)) ≡ true
      by_test true h = refl
      by_test false h = h
