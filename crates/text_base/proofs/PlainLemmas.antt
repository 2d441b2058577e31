-- Which bytes of a page decode to themselves.
use Rattle.std.proofs.Common.{◌≡◌, ℕ, zero, suc, ◌-◌, ◌<◌, ◌≤◌, Bool, true, false, cond, List, [], ◌∷◌, ◌++◌, length, get_or, drop, length-drop, true≢false, refl, sym, ◌∙◌, ap, arith, Result, Ok, Err}
use Rattle.std.specs.Prelude.{◌==◌, ◌&&◌, slice_range}
use Rattle.std.proofs.lemmas.List.{nil_from_length, take_all, append-nil}
use Rattle.text_base.specs.Text.{run_end, is_not_byte}
use Rattle.text_base.specs.inner.Newlines.{newlines_after}
use Rattle.text_base.specs.Decoding.{newlines, without_mark}
use Rattle.text_base.proofs.NewlineLemmas.{last_line, none_left}
use Rattle.text_base.proofs.NewlinePlaces.{newlines_read}

front_no_cr : (c : ℕ) (rest : List ℕ) (k : ℕ) → (c == 13) ≡ false → ((j : ℕ) → (get_or rest j 0 == 13) ≡ false) → (get_or (c ∷ rest) k 0 == 13) ≡ false
front_no_cr c rest zero h t = h
front_no_cr c rest (suc k) h t = t k

-- no CR is left
no_cr : (after_cr : Bool) (bytes : List ℕ) (k : ℕ) → (get_or (newlines_after after_cr bytes) k 0 == 13) ≡ false
no_cr after_cr [] k = refl
no_cr after_cr (b ∷ bs) k = at (λ a j. no_cr a bs j) (b == 13) refl
  where
    other : ((a : Bool) (j : ℕ) → (get_or (newlines_after a bs) j 0 == 13) ≡ false) → (t : Bool) → (b == 13) ≡ false
        → (get_or (cond t (newlines_after false bs) (b ∷ newlines_after false bs)) k 0 == 13) ≡ false
    other later true e = later false k
    other later false e = front_no_cr b (newlines_after false bs) k e (later false)

    at : ((a : Bool) (j : ℕ) → (get_or (newlines_after a bs) j 0 == 13) ≡ false) → (t : Bool) → (b == 13) ≡ t
        → (get_or (cond t (10 ∷ newlines_after true bs) (cond (after_cr && b == 10) (newlines_after false bs) (b ∷ newlines_after false bs))) k 0 == 13) ≡ false
    at later true e = front_no_cr 10 (newlines_after true bs) k refl (later true)
    at later false e = other later (after_cr && b == 10) e

pub no_longer : (after_cr : Bool) (bytes : List ℕ) → length (newlines_after after_cr bytes) ≤ length bytes
no_longer after_cr [] = omega arith
no_longer after_cr (b ∷ bs) = at (no_longer true bs) (no_longer false bs) (b == 13) (after_cr && b == 10)
  where
    at : length (newlines_after true bs) ≤ length bs → length (newlines_after false bs) ≤ length bs
        → (t u : Bool) → length (cond t (10 ∷ newlines_after true bs) (cond u (newlines_after false bs) (b ∷ newlines_after false bs))) ≤ length (b ∷ bs)
    at h k true u = omega (arith, h)
    at h k false true = omega (arith, k)
    at h k false false = omega (arith, k)

-- bytes without a CR stay
pub newlines_stay : (text : List ℕ) (j : ℕ) → j ≡ run_end (is_not_byte 13) text 0 → length text ≤ j → newlines text ≡ text
newlines_stay text j e l =
    newlines_read text ∙ sym (last_line text 0 j [] (slice_range text 0 j) (omega arith) e refl)
    ∙ ap (λ r. slice_range text 0 j ++ r) (none_left text 0 j l) ∙ append-nil (slice_range text 0 j) ∙ take_all (j - 0) text (omega arith)

-- without a mark nothing is taken
pub mark_none : (text : List ℕ) → length text ≤ length (without_mark text) → without_mark text ≡ text
mark_none text = at ((get_or text 0 0 == 0xef) && (get_or text 1 0 == 0xbb) && (get_or text 2 0 == 0xbf))
  where
    at : (t : Bool) → length text ≤ length (cond t (drop 3 text) text) → cond t (drop 3 text) text ≡ text
    at true h =
        let l : length text ≤ length (drop 3 text) = h in
        let none = nil_from_length text (omega (arith, l, length-drop 3 text)) in
        ap (drop 3) none ∙ sym none
    at false h = refl

value : {X : Type 0} → Result (List ℕ) X → List ℕ
value (Ok x) = x
value (Err e) = []

pub taken_not_plain : {X : Type 0} (bytes left : List ℕ) → length left < length bytes → ◌≡◌ {A = Result (List ℕ) X} (Ok (newlines left)) (Ok bytes) → ⊥
unfolding value
taken_not_plain bytes left l e =
    let same : newlines_after false left ≡ bytes = sym (newlines_read left) ∙ ap value e in
    let long : length (newlines_after false left) ≡ length bytes = ap length same in
    omega (arith, no_longer false left, long, l)

pub cr_not_plain : {X : Type 0} (bytes left : List ℕ) (k : ℕ) → (get_or bytes k 0 == 13) ≡ true → ◌≡◌ {A = Result (List ℕ) X} (Ok (newlines left)) (Ok bytes) → ⊥
unfolding value
cr_not_plain bytes left k cr e =
    let same : newlines_after false left ≡ bytes = sym (newlines_read left) ∙ ap value e in
    true≢false (sym cr ∙ ap (λ t. get_or t k 0 == 13) (sym same) ∙ no_cr false left k)
