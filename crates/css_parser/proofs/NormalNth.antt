-- The `an+b` that is written is read.
use Rattle.std.proofs.Common.{◌≡◌, ℕ, ◌+◌, ◌-◌, ◌<◌, ◌≤◌, Bool, true, false, cond, List, [], ◌∷◌, ◌++◌, length, take, drop, get_or, refl, sym, ◌∙◌, ap, arith, length-drop, append-nil, ℤ, pos, negsuc}
use Rattle.std.proofs.Math.Seq.{take-append_seam}
use Rattle.std.specs.Prelude.{◌==◌, ◌||◌, ◌&&◌, Some, None, min, nat_abs, nat_lt, slice_range}
use Rattle.std.specs.List.{list_all}
use Rattle.std.specs.Fmt.{decimal}
use Rattle.std.proofs.lemmas.Bool.{and_parts, and_from, ne_eqb, eq-eqb, lt-ltb}
use Rattle.std.proofs.lemmas.Bool.Decides.{nat_tests}
use Rattle.text_base.specs.Text.{run_end, is_digit, digits_value}
use Rattle.text_base.proofs.Runs.{run_end_step, run_end_stop, run_end_end}
use Rattle.text_base.proofs.Decimals.{Digits, decimal_digits}
use Rattle.css_lexer.proofs.SpelledUnits.{first_byte, rest_after, byte_inside, run_is}
use Rattle.css_selectors.specs.WellMade.{IsSmall, most_number}
use Rattle.css_parser.specs.declared.nth.Number.{Number}
use Rattle.css_parser.specs.Nth.{is_blank, past_blanks, past_digits, ends, size, number, line, is_sign, is_letter_at, is_odd, is_even, last_number, behind_n, with_b, factor, behind_sign, linear, nth}
use Rattle.css_parser.specs.Simples.{signed}

-- the sign of a number as a byte, and whether it is `-`
abbrev pub sign_byte : ℤ → ℕ
sign_byte (pos n) = 43
sign_byte (negsuc n) = 45

abbrev pub is_minus : ℤ → Bool
is_minus (pos n) = false
is_minus (negsuc n) = true

abbrev pub line_text : ℤ → ℤ → List ℕ
line_text a b = sign_byte a ∷ (decimal (nat_abs a) ++ 110 ∷ sign_byte b ∷ decimal (nat_abs b))

module _ (s : List ℕ) where
  -- a run of bytes that pass up to the end
  run_last : (test : ℕ → Bool) (p : ℕ) (xs : List ℕ) → list_all test xs ≡ true → drop p s ≡ xs → run_end test s p ≡ p + length xs
  run_last test p [] h e = run_end_end test s p (omega (arith, length-drop p s, ap length e)) ∙ (let z : p ≡ p + 0 = omega arith in z)
  run_last test p (x ∷ xs) h e =
      let both = and_parts (test x) (list_all test xs) h in
      run_end_step test s p (byte_inside s p x xs e) (ap test (first_byte s p x xs e) ∙ both.0)
      ∙ run_last test (p + 1) xs both.1 (rest_after s p (x ∷ []) xs e)
      ∙ (let z : p + 1 + length xs ≡ p + length (x ∷ xs) = omega arith in z)

  slice_there : (p q : ℕ) (xs ys : List ℕ) → q ≡ p + length xs → drop p s ≡ xs ++ ys → slice_range s p q ≡ xs
  slice_there p q xs ys e h = ap (λ n. take n (drop p s)) (let z : q - p ≡ length xs = omega arith in z) ∙ ap (take (length xs)) h ∙ take-append_seam xs ys

  no_blank : (p b : ℕ) (rest : List ℕ) → (b == 32) ≡ false → drop p s ≡ b ∷ rest → past_blanks s p ≡ p
  unfolding past_blanks
  no_blank p b rest other e = run_end_stop is_blank s p (byte_inside s p b rest e) (ap is_blank (first_byte s p b rest e) ∙ other)

  size_is : (p q n : ℕ) (ds ys : List ℕ) → digits_value ds ≡ n → n ≤ most_number → q ≡ p + length ds → drop p s ≡ ds ++ ys → size s p q ≡ n
  unfolding size
  size_is p q n ds ys value small e h =
      ap (λ v. min (1 + most_number) (digits_value v)) (slice_there p q ds ys e h) ∙ ap (min (1 + most_number)) value ∙ (let z : min (1 + most_number) n ≡ n = omega arith in z)

  digit_first : (d : ℕ) → is_digit d ≡ true → (d == 32) ≡ false
  digit_first d h = grind (arith, nat_tests)

  blanks_digits : (p : ℕ) (ds : List ℕ) → 0 < length ds → list_all is_digit ds ≡ true → drop p s ≡ ds → past_blanks s p ≡ p
  blanks_digits p [] some h e = absurd (omega arith)
  blanks_digits p (d ∷ ds) some h e = no_blank p d ds (digit_first d (and_parts (is_digit d) (list_all is_digit ds) h).0) e

  last_is : (minus : Bool) (p n : ℕ) (ds : List ℕ) → 0 < length ds → list_all is_digit ds ≡ true → digits_value ds ≡ n → n ≤ most_number → drop p s ≡ ds → last_number minus s p ≡ Some (number minus n)
  unfolding past_digits past_blanks
  last_is minus p n ds some h value small e =
      let j : ℕ = p + length ds in
      let run : past_digits s p ≡ j = run_last is_digit p ds h e in
      let full : length s ≡ j = omega (arith, length-drop p s, ap length e) in
      let at_end : past_blanks s j ≡ length s = run_end_end is_blank s j (omega arith) ∙ sym full in
      ap (λ q. cond (nat_lt p q && ends s q) (Some (number minus (size s p q))) None) run
      ∙ ap (λ t. cond t (Some (number minus (size s p j))) None) (and_from (nat_lt p j) (ends s j) (lt-ltb p j (omega arith)) (eq-eqb (past_blanks s j) (length s) at_end))
      ∙ ap (λ m. Some (number minus m)) (size_is p j n ds [] value small refl (e ∙ sym (append-nil ds)))

-- ---- the line

sign_no_blank : (a : ℤ) → (sign_byte a == 32) ≡ false
sign_no_blank (pos n) = refl
sign_no_blank (negsuc n) = refl

sign_is_sign : (a : ℤ) → is_sign (sign_byte a) ≡ true
sign_is_sign (pos n) = refl
sign_is_sign (negsuc n) = refl

sign_is_minus : (a : ℤ) → (sign_byte a == 45) ≡ is_minus a
sign_is_minus (pos n) = refl
sign_is_minus (negsuc n) = refl

sign_no_odd : (a : ℤ) → ((sign_byte a == 111) || (sign_byte a + 32 == 111)) ≡ false
sign_no_odd (pos n) = refl
sign_no_odd (negsuc n) = refl

sign_no_even : (a : ℤ) → ((sign_byte a == 101) || (sign_byte a + 32 == 101)) ≡ false
sign_no_even (pos n) = refl
sign_no_even (negsuc n) = refl

abbrev pub number_of : ℤ → Number
number_of a = number (is_minus a) (nat_abs a)

pub signed_is : (a : ℤ) → signed (number_of a) ≡ a
signed_is (pos n) = refl
signed_is (negsuc n) = refl

module _ (a b : ℤ) (small_a : IsSmall a) (small_b : IsSmall b) where
  s : List ℕ
  s = line_text a b

  da : List ℕ
  da = decimal (nat_abs a)

  db : List ℕ
  db = decimal (nat_abs b)

  digits_a : Digits (nat_abs a) (decimal (nat_abs a))
  digits_a = decimal_digits (nat_abs a) (omega (arith, small_a))

  digits_b : Digits (nat_abs b) (decimal (nat_abs b))
  digits_b = decimal_digits (nat_abs b) (omega (arith, small_b))

  j : ℕ
  j = 1 + length da

  after_sign : drop 1 s ≡ da ++ 110 ∷ sign_byte b ∷ db
  unfolding s da db
  after_sign = refl

  at_n : drop j s ≡ 110 ∷ sign_byte b ∷ db
  unfolding j
  at_n = rest_after s 1 da (110 ∷ sign_byte b ∷ db) after_sign

  at_b : drop (j + 1) s ≡ sign_byte b ∷ db
  at_b = rest_after s j (110 ∷ []) (sign_byte b ∷ db) at_n

  at_db : drop (j + 1 + 1) s ≡ db
  at_db = rest_after s (j + 1) (sign_byte b ∷ []) db at_b

  digits_end : past_digits s 1 ≡ j
  unfolding past_digits j da
  digits_end = run_is s is_digit 1 110 da (sign_byte b ∷ db) digits_a.digits refl after_sign

  b_read : behind_n s (j + 1) ≡ Some (number_of b)
  unfolding db
  b_read =
      let k : ℕ = j + 1 in
      let here : past_blanks s k ≡ k = no_blank s k (sign_byte b) db (sign_no_blank b) at_b in
      let first : get_or s k 0 ≡ sign_byte b = first_byte s k (sign_byte b) db at_b in
      let inside : (k == length s) ≡ false = ne_eqb k (length s) (λ e. absurd (let l = byte_inside s k (sign_byte b) db at_b in omega arith)) in
      let later : past_blanks s (k + 1) ≡ k + 1 = blanks_digits s (k + 1) db digits_b.some digits_b.digits at_db in
      ap (λ p. cond (p == length s) (Some (number false 0)) (cond (is_sign (get_or s p 0)) (last_number (get_or s p 0 == 45) s (past_blanks s (p + 1))) None)) here
      ∙ ap (λ t. cond t (Some (number false 0)) (cond (is_sign (get_or s k 0)) (last_number (get_or s k 0 == 45) s (past_blanks s (k + 1))) None)) inside
      ∙ ap (λ c. cond (is_sign c) (last_number (c == 45) s (past_blanks s (k + 1))) None) first
      ∙ ap (λ t. cond t (last_number (sign_byte b == 45) s (past_blanks s (k + 1))) None) (sign_is_sign b)
      ∙ ap (λ t. last_number t s (past_blanks s (k + 1))) (sign_is_minus b)
      ∙ ap (last_number (is_minus b) s) later
      ∙ last_is s (is_minus b) (k + 1) (nat_abs b) db digits_b.some digits_b.digits digits_b.value small_b at_db

  a_read : factor (is_minus a) s 1 j ≡ number_of a
  unfolding da j
  a_read =
      ap (λ t. cond t (number (is_minus a) 1) (number (is_minus a) (size s 1 j))) (ne_eqb 1 j (λ e. absurd (let l = digits_a.some in omega arith)))
      ∙ ap (number (is_minus a)) (size_is s 1 j (nat_abs a) da (110 ∷ sign_byte b ∷ db) digits_a.value small_a refl after_sign)

  behind_read : behind_sign (is_minus a) s 1 ≡ Some (line (number_of a) (number_of b))
  behind_read =
      let letter : is_letter_at s j 110 ≡ true = ap (λ c. (c == 110) || (c + 32 == 110)) (first_byte s j 110 (sign_byte b ∷ db) at_n) in
      ap (λ q. cond (is_letter_at s q 110) (with_b (factor (is_minus a) s 1 q) (behind_n s (q + 1))) (with_b (number false 0) (last_number (is_minus a) s 1))) digits_end
      ∙ ap (λ t. cond t (with_b (factor (is_minus a) s 1 j) (behind_n s (j + 1))) (with_b (number false 0) (last_number (is_minus a) s 1))) letter
      ∙ ap (λ x. with_b x (behind_n s (j + 1))) a_read ∙ ap (with_b (number_of a)) b_read

  starts : drop 0 s ≡ sign_byte a ∷ (da ++ 110 ∷ sign_byte b ∷ db)
  unfolding s da db
  starts = refl

  line_read : nth s ≡ Some (line (number_of a) (number_of b))
  line_read =
      let first : get_or s 0 0 ≡ sign_byte a = first_byte s 0 (sign_byte a) (da ++ 110 ∷ sign_byte b ∷ db) starts in
      let odd : is_odd s 0 ≡ false = ap (λ t. ((t && is_letter_at s 1 100) && is_letter_at s 2 100) && ends s 3) (ap (λ c. (c == 111) || (c + 32 == 111)) first ∙ sign_no_odd a) in
      let even : is_even s 0 ≡ false = ap (λ t. (((t && is_letter_at s 1 118) && is_letter_at s 2 101) && is_letter_at s 3 110) && ends s 4) (ap (λ c. (c == 101) || (c + 32 == 101)) first ∙ sign_no_even a) in
      ap (λ p. cond (is_odd s p) (Some (line (number false 2) (number false 1))) (cond (is_even s p) (Some (line (number false 2) (number false 0))) (linear s p))) (no_blank s 0 (sign_byte a) _ (sign_no_blank a) starts)
      ∙ ap (λ t. cond t (Some (line (number false 2) (number false 1))) (cond (is_even s 0) (Some (line (number false 2) (number false 0))) (linear s 0))) odd
      ∙ ap (λ t. cond t (Some (line (number false 2) (number false 0))) (linear s 0)) even
      ∙ ap (λ c. cond (is_sign c) (behind_sign (c == 45) s 1) (behind_sign false s 0)) first
      ∙ ap (λ t. cond t (behind_sign (sign_byte a == 45) s 1) (behind_sign false s 0)) (sign_is_sign a)
      ∙ ap (λ t. behind_sign t s 1) (sign_is_minus a)
      ∙ behind_read

pub nth_written : (a b : ℤ) → IsSmall a → IsSmall b → nth (line_text a b) ≡ Some (line (number_of a) (number_of b))
unfolding s
nth_written a b small_a small_b = line_read a b small_a small_b
