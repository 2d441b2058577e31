-- What a test finds among the rows, and what it finds there.
use Rattle.std.proofs.Common.{◌≡◌, refl, ℕ, suc, zero, ◌+◌, ◌<◌, ◌≤◌, Bool, true, eqb, length, ap, ◌∙◌, arith, inl, inr, ◌≢◌}
use Rattle.std.proofs.lemmas.Bool.Decides.{eqb_tells}
use Rattle.std.specs.List.{list_any, range_with_len}
use Rattle.std.proofs.lemmas.Bool.{or_cases, or_left, or_right, eqb-true, eq-eqb}
use Rattle.doc_model.specs.Document.{Document, rows}
use Rattle.css_meaning.proofs.ListTests.{is_in}

-- what a test finds among n numbers from a on
pub found : (p : ℕ → Bool) (a n : ℕ) → list_any p (range_with_len a n) ≡ true → (y : ℕ) × (a ≤ y) × (y < a + n) × (p y ≡ true)
found p a zero h = let x = h in cc
found p a (suc n) h =
    elim (or_cases (p a) (list_any p (range_with_len (a + 1) n)) h) [
      | inl here ↦ (a, omega arith, omega arith, here)
      | inr later ↦ let w = found p (a + 1) n later in (w.0, omega arith, omega arith, w.3)
    ]

pub finds : (p : ℕ → Bool) (a n y : ℕ) → a ≤ y → y < a + n → p y ≡ true → list_any p (range_with_len a n) ≡ true
finds p a zero y low high h = absurd (omega arith)
finds p a (suc n) y low high h =
    elim (eqb_tells a y) [
      | inl same ↦ or_left (p a) _ (ap p same.1 ∙ h)
      | inr apart ↦
          let ne : a ≢ y = apart.1 in
          let more : a + 1 ≤ y = omega arith in
          let less : y < (a + 1) + n = omega arith in
          or_right (p a) _ (finds p (a + 1) n y more less h)
    ]

-- a number is among the rows exactly where it is a row's
pub in_rows : (doc : Document) (e : ℕ) → e < length doc → is_in (rows doc) e ≡ true
in_rows doc e lt = finds (λ z. eqb z e) 0 (length doc) e (omega arith) (omega arith) (eq-eqb e e refl)

pub row_within : (doc : Document) (e : ℕ) → is_in (rows doc) e ≡ true → e < length doc
row_within doc e h = let w = found (λ z. eqb z e) 0 (length doc) h in let same : w.0 ≡ e = eqb-true w.0 e w.3 in omega arith
