-- Where text ends.
use Rattle.std.proofs.Common.{◌≡◌, ℕ, ◌+◌, ◌<◌, ◌≤◌, Bool, true, false, not, ◌&&◌, List, length, get_or, drop, sym, refl, ◌∙◌, ap, subst, arith, get_or-drop, add-zero, IsUtf8}
use Rattle.std.specs.Prelude.{◌==◌}
use Rattle.std.proofs.lemmas.Bool.Decides.{nat_tests}
use Rattle.std.proofs.lemmas.Bool.{not-true}
use Rattle.text_base.specs.Text.{find_where, run_end, is_not_byte, is_letter, IsPlace}
use Rattle.text_base.proofs.Boundaries.{after_ascii}
use Rattle.text_base.proofs.Runs.{run_end_from, run_end_le, run_end_passes, run_end_stops}
use Rattle.text_base.proofs.Places.{find_past, find_here, find_later, find_end, find_moves}
use Rattle.html_lexer.specs.Kinds.{is_name_byte}
use Rattle.html_lexer.specs.Steps.{is_opener, opens, starts_at}

is_true : (b : Bool) → not b ≡ false → b ≡ true
is_true true h = refl
is_true false h = sym h

pub both : (a b c : Bool) → a ≡ true → b ≡ c → (a && b) ≡ c
both true b c h e = e
both false b c h e = cc

pub neither : (a b : Bool) → a ≡ false → (a && b) ≡ false
neither true b h = cc
neither false b h = refl

-- A test that needs a `<`, and where it first passes: `<` after `<` is looked at.
module _ (p : List ℕ → Bool) (text : List ℕ) (needs : (k : ℕ) → (get_or text k 0 == 60) ≡ false → p (drop k text) ≡ false) (i j : ℕ) (within : i ≤ length text) (found : j ≡ run_end (is_not_byte 60) text i) where
  skipped : find_where p text i ≡ find_where p text j
  skipped = find_past p text i j (omega (arith, run_end_from (is_not_byte 60) text i)) (omega (arith, run_end_le (is_not_byte 60) text i within))
      (λ k low high. needs k (not-true _ (run_end_passes (is_not_byte 60) text i k low (omega arith))))

  pub to_end : length text ≤ j → find_where p text i ≡ j
  to_end l = skipped ∙ find_end p text j l

  pub here : j < length text → p (drop j text) ≡ true → find_where p text i ≡ j
  here l h = skipped ∙ find_here p text j l h

  pub later : j < length text → p (drop j text) ≡ false → find_where p text i ≡ find_where p text (j + 1)
  later l h = skipped ∙ find_later p text j l h

-- the byte that is found
pub found_lt : (text : List ℕ) (i j : ℕ) → j ≡ run_end (is_not_byte 60) text i → j < length text → (get_or text j 0 == 60) ≡ true
found_lt text i j found l = is_true _ (subst (λ n. is_not_byte 60 (get_or text n 0) ≡ false) (sym found) (run_end_stops (is_not_byte 60) text i (omega arith)))

module _ (text : List ℕ) where
  pub opens_at : (k : ℕ) → opens (drop k text) ≡ ((get_or text k 0 == 60) && is_opener (get_or text (k + 1) 0))
  opens_at k =
      ap (λ b. (b == 60) && is_opener (get_or (drop k text) 1 0)) (get_or-drop k text 0 0 ∙ ap (λ n. get_or text n 0) (add-zero k))
      ∙ ap (λ b. (get_or text k 0 == 60) && is_opener b) (get_or-drop k text 1 0)

  opens_needs : (k : ℕ) → (get_or text k 0 == 60) ≡ false → opens (drop k text) ≡ false
  opens_needs k h = opens_at k ∙ neither _ _ h

  module _ (i j : ℕ) (within : i ≤ length text) (found : j ≡ run_end (is_not_byte 60) text i) where
    pub plain_to_end : length text ≤ j → find_where opens text i ≡ j
    plain_to_end l = to_end opens text opens_needs i j within found l

    pub plain_here : j < length text → is_opener (get_or text (j + 1) 0) ≡ true → find_where opens text i ≡ j
    plain_here l h = here opens text opens_needs i j within found l (opens_at j ∙ both _ _ true (found_lt text i j found l) h)

    pub plain_on : j < length text → is_opener (get_or text (j + 1) 0) ≡ false → find_where opens text i ≡ find_where opens text (j + 1)
    plain_on l h = later opens text opens_needs i j within found l (opens_at j ∙ both _ _ false (found_lt text i j found l) h)

  -- where no markup begins, the text there is not empty
  pub plain_moves : (i j : ℕ) → i < length text → j ≡ find_where opens text i → ((get_or text i 0 == 60) && is_opener (get_or text (i + 1) 0)) ≡ false → i < j
  plain_moves i j l e h = omega (arith, find_moves opens text i l (opens_at i ∙ h))

  -- a `<` with no letter, `/`, `!` or `?` after it begins no markup
  pub other_moves : (i j : ℕ) → i < length text → j ≡ find_where opens text i → starts_at text i ≡ false → (get_or text i 0 ≡ 60 → get_or text (i + 1) 0 ≡ 47 → ⊥) → (get_or text i 0 ≡ 60 → get_or text (i + 1) 0 ≡ 33 → ⊥) → (get_or text i 0 ≡ 60 → get_or text (i + 1) 0 ≡ 63 → ⊥) → i < j
  other_moves i j l e no_start no_end no_bang no_query = plain_moves i j l e (no_opener (get_or text i 0) (get_or text (i + 1) 0) no_start no_end no_bang no_query)
    where
      no_opener : (a b : ℕ) → ((a == 60) && is_letter b) ≡ false → (a ≡ 60 → b ≡ 47 → ⊥) → (a ≡ 60 → b ≡ 33 → ⊥) → (a ≡ 60 → b ≡ 63 → ⊥) → ((a == 60) && is_opener b) ≡ false
      no_opener a b s e x q = grind (arith, nat_tests)

-- the place after the `>` that is found
pub past_bracket : (text : List ℕ) (i j k : ℕ) → IsUtf8 text → j ≡ run_end (is_not_byte 62) text i → j < length text → k ≡ j + 1 → IsPlace text k
past_bracket text i j k utf8 e l is =
    let t : is_not_byte 62 (get_or text j 0) ≡ false = subst (λ n. is_not_byte 62 (get_or text n 0) ≡ false) (sym e) (run_end_stops (is_not_byte 62) text i (omega arith)) in
    after_ascii text j k utf8 is l (let f : get_or text j 0 ≡ 62 = grind (arith, nat_tests) in omega arith)

pub letter_is_name : (b : ℕ) → is_letter b ≡ true → is_name_byte b ≡ true
letter_is_name b h = grind (arith, nat_tests)

pub letter_some : (b : ℕ) → is_letter b ≡ true → 0 < b
letter_some b h = grind (arith, nat_tests)
