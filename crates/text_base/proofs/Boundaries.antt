-- A run ends between characters.
use Rattle.std.proofs.Common.{◌≡◌, ℕ, ◌+◌, ◌-◌, ◌<◌, ◌≤◌, Bool, List, length, get_or, sym, subst, arith, IsUtf8, inl, inr, ◌⊎◌}
use Rattle.std.specs.Str.{IsCharBoundary}
use Rattle.std.proofs.lemmas.Bool.{cases_lt, both_ways}
use Rattle.std.proofs.lemmas.List.{get_or_past}
use Rattle.std.proofs.lemmas.Bool.Decides.{nat_tests}
use Rattle.std.proofs.lemmas.Str.{IsCharBoundary-before_ascii, IsCharBoundary-after_ascii, IsCharBoundary-end, IsCharBoundary-start}
use Rattle.text_base.specs.Text.{run_end, is_not_byte, IsWide, IsNarrow, IsPlace}
use Rattle.text_base.proofs.Runs.{run_end_le, run_end_passes, run_end_stops}

module _ (p : ℕ → Bool) (text : List ℕ) (utf8 : IsUtf8 text) (i : ℕ) (l : i ≤ length text) where
  -- the byte at the end fails, so it is ASCII
  pub wide_boundary : IsWide p → IsCharBoundary text (run_end p text i)
  wide_boundary wide =
      elim (cases_lt (run_end p text i) (length text)) [
        | inl below ↦
            elim (cases_lt (get_or text (run_end p text i) 0) 128) [
              | inl ascii ↦ IsCharBoundary-before_ascii text (run_end p text i) below ascii
              | inr past ↦ absurd (both_ways _ (run_end_stops p text i below) (wide _ past))
            ]
        | inr past ↦ subst (IsCharBoundary text) (let e : length text ≡ run_end p text i = omega (arith, run_end_le p text i l) in e) (IsCharBoundary-end text)
      ]

  -- the byte before the end passes, so it is ASCII
  pub narrow_boundary : IsNarrow p → IsCharBoundary text i → IsCharBoundary text (run_end p text i)
  narrow_boundary narrow at =
      elim (cases_lt i (run_end p text i)) [
        | inl more ↦
            elim (cases_lt (get_or text (run_end p text i - 1) 0) 128) [
              | inl ascii ↦ subst (IsCharBoundary text) (let e : run_end p text i - 1 + 1 ≡ run_end p text i = omega arith in e) (IsCharBoundary-after_ascii text (run_end p text i - 1) utf8 (omega (arith, run_end_le p text i l)) ascii)
              | inr past ↦ absurd (both_ways _ (narrow _ past) (run_end_passes p text i (run_end p text i - 1) (omega arith) (omega arith)))
            ]
        | inr none ↦ subst (IsCharBoundary text) (let e : i ≡ run_end p text i = omega arith in e) at
      ]

pub place : (text : List ℕ) (i : ℕ) → IsCharBoundary text i → IsPlace text i
place text i h = record { within = h.0; starts = h.1 }

pub boundary : (text : List ℕ) (i : ℕ) → IsPlace text i → IsCharBoundary text i
boundary text i h = (h.within, h.starts)

pub run_end_place : (p : ℕ → Bool) (text : List ℕ) (i j : ℕ) → IsWide p ⊎ IsNarrow p → IsUtf8 text → i ≤ length text → j ≡ run_end p text i → IsPlace text i → IsPlace text j
run_end_place p text i j cuts utf8 l e at =
    subst (IsPlace text) (sym e) (elim cuts [ inl wide ↦ place text _ (wide_boundary p text utf8 i l wide) | inr narrow ↦ place text _ (narrow_boundary p text utf8 i l narrow (boundary text i at)) ])

pub find_byte_place : (byte : ℕ) (text : List ℕ) (i j : ℕ) → IsUtf8 text → byte < 128 → i ≤ length text → j ≡ run_end (is_not_byte byte) text i → IsPlace text j
find_byte_place byte text i j utf8 ascii l e =
    subst (IsPlace text) (sym e) (place text _ (wide_boundary (is_not_byte byte) text utf8 i l (λ b past. grind (arith, nat_tests))))

-- where a text may be cut: at its start, at its end, and beside an ASCII byte
pub at_start : (text : List ℕ) → IsUtf8 text → IsPlace text 0
at_start text utf8 = place text 0 (IsCharBoundary-start text utf8)

pub before_ascii : (text : List ℕ) (i : ℕ) → i < length text → get_or text i 0 < 128 → IsPlace text i
before_ascii text i l ascii = place text i (IsCharBoundary-before_ascii text i l ascii)

pub after_ascii : (text : List ℕ) (i j : ℕ) → IsUtf8 text → j ≡ i + 1 → i < length text → get_or text i 0 < 128 → IsPlace text j
after_ascii text i j utf8 e l ascii = subst (IsPlace text) (sym e) (place text _ (IsCharBoundary-after_ascii text i utf8 l ascii))

pub past_ascii : (text : List ℕ) (i : ℕ) → IsUtf8 text → i < length text → get_or text i 0 < 128 → IsPlace text (i + 1)
past_ascii text i utf8 l ascii = place text _ (IsCharBoundary-after_ascii text i utf8 l ascii)

-- a byte that is not 0 stands in the text
pub in_text : (text : List ℕ) (i : ℕ) → 0 < get_or text i 0 → i < length text
in_text text i h = elim (cases_lt i (length text)) [ inl l ↦ l | inr past ↦ absurd (let e = get_or_past text i 0 past in omega arith) ]

pub past_byte : (text : List ℕ) (i j : ℕ) → IsUtf8 text → j ≡ i + 1 → 0 < get_or text i 0 → get_or text i 0 < 128 → IsPlace text j
past_byte text i j utf8 e some ascii = after_ascii text i j utf8 e (in_text text i some) ascii
