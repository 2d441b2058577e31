-- Where raw text ends.
use Rattle.std.proofs.Common.{◌≡◌, ℕ, ◌+◌, ◌-◌, ◌<◌, ◌≤◌, Bool, true, false, ◌&&◌, ◌||◌, List, length, get_or, take, drop, refl, ◌∙◌, ap, arith, get_or-drop, add-zero, length-drop, drop-drop, leb}
use Rattle.std.specs.Prelude.{◌==◌, slice_range}
use Rattle.std.specs.Str.{str_eq_ignore_ascii_case}
use Rattle.std.proofs.lemmas.Bool.Decides.{nat_tests}
use Rattle.text_base.specs.Text.{find_where, run_end, is_not_byte}
use Rattle.html_lexer.specs.Kinds.{is_gap}
use Rattle.html_lexer.specs.Names.{has_letters, closes}
use Rattle.html_lexer.proofs.PlainLemmas.{to_end, here, later}

module _ (name text : List ℕ) where
  same_leb : (a b c d : ℕ) → a + d ≡ c + b → leb a b ≡ leb c d
  same_leb a b c d e = grind (arith, nat_tests)

  byte_from : (i k : ℕ) → get_or (drop i text) k 0 ≡ get_or text (i + k) 0
  byte_from i k = get_or-drop i text k 0

  first_byte : (i : ℕ) → get_or (drop i text) 0 0 ≡ get_or text i 0
  first_byte i = byte_from i 0 ∙ ap (λ n. get_or text n 0) (add-zero i)

  letters_from : (i : ℕ) → i ≤ length text → has_letters (drop i text) 2 name ≡ has_letters text (i + 2) name
  letters_from i l =
      ap (λ b. b && str_eq_ignore_ascii_case (slice_range (drop i text) 2 (2 + length name)) name) (same_leb (2 + length name) (length (drop i text)) (i + 2 + length name) (length text) (omega (arith, length-drop i text)))
      ∙ ap (λ s. leb (i + 2 + length name) (length text) && str_eq_ignore_ascii_case s name) same
    where
      same : slice_range (drop i text) 2 (2 + length name) ≡ slice_range text (i + 2) (i + 2 + length name)
      same =
          ap (take (2 + length name - 2)) (drop-drop 2 i text ∙ ap (λ n. drop n text) (let e : _ ≡ i + 2 = omega arith in e))
          ∙ ap (λ n. take n (drop (i + 2) text)) (let e : 2 + length name - 2 ≡ i + 2 + length name - (i + 2) = omega arith in e)

  -- the end tag, by places of the text
  pub closes_at : (i : ℕ) → i ≤ length text → closes name (drop i text) ≡ ((get_or text i 0 == 60) && (get_or text (i + 1) 0 == 47) && has_letters text (i + 2) name && (is_gap (get_or text (i + 2 + length name) 0) || (get_or text (i + 2 + length name) 0 == 62)))
  closes_at i l =
      let after : get_or (drop i text) (2 + length name) 0 ≡ get_or text (i + 2 + length name) 0 = byte_from i (2 + length name) ∙ ap (λ n. get_or text n 0) (omega arith) in
      ap (λ b. (b == 60) && (get_or (drop i text) 1 0 == 47) && has_letters (drop i text) 2 name && (is_gap (get_or (drop i text) (2 + length name) 0) || (get_or (drop i text) (2 + length name) 0 == 62))) (first_byte i)
      ∙ ap (λ b. (get_or text i 0 == 60) && (b == 47) && has_letters (drop i text) 2 name && (is_gap (get_or (drop i text) (2 + length name) 0) || (get_or (drop i text) (2 + length name) 0 == 62))) (byte_from i 1)
      ∙ ap (λ b. (get_or text i 0 == 60) && (get_or text (i + 1) 0 == 47) && b && (is_gap (get_or (drop i text) (2 + length name) 0) || (get_or (drop i text) (2 + length name) 0 == 62))) (letters_from i l)
      ∙ ap (λ b. (get_or text i 0 == 60) && (get_or text (i + 1) 0 == 47) && has_letters text (i + 2) name && (is_gap b || (b == 62))) after

  closes_needs : (k : ℕ) → (get_or text k 0 == 60) ≡ false → closes name (drop k text) ≡ false
  closes_needs k h = three (get_or (drop k text) 0 0 == 60) (get_or (drop k text) 1 0 == 47) (has_letters (drop k text) 2 name) _ (ap (λ b. b == 60) (first_byte k) ∙ h)
    where
      three : (a b c d : Bool) → a ≡ false → (a && b && c && d) ≡ false
      three true b c d h = cc
      three false b c d h = refl

  module _ (i j : ℕ) (within : i ≤ length text) (found : j ≡ run_end (is_not_byte 60) text i) where
    pub raw_to_end : length text ≤ j → find_where (closes name) text i ≡ j
    raw_to_end l = to_end (closes name) text closes_needs i j within found l

    pub raw_here : j < length text → closes name (drop j text) ≡ true → find_where (closes name) text i ≡ j
    raw_here l h = here (closes name) text closes_needs i j within found l h

    pub raw_on : j < length text → closes name (drop j text) ≡ false → find_where (closes name) text i ≡ find_where (closes name) text (j + 1)
    raw_on l h = later (closes name) text closes_needs i j within found l h
