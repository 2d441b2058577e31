-- Texts without the blanks at their ends.
use Rattle.std.proofs.Common.{◌≡◌, ℕ, zero, suc, ◌-◌, ◌<◌, List, [], ◌∷◌, length, take, drop, get_or, refl, ◌∙◌, ap, arith}
use Rattle.std.proofs.lemmas.Bool.Decides.{nat_tests}
use Rattle.std.specs.Prelude.{Bool, true, false, ◌&&◌, if◌then◌else◌}
use Rattle.std.specs.List.{list_all, slice_range}
use Rattle.std.specs.Str.{IsUtf8}
use Rattle.text_base.specs.Text.{IsPlace}
use Rattle.text_base.proofs.Boundaries.{past_ascii}
use Rattle.std.proofs.lemmas.List.Folds.{list_all_at}
use Rattle.query_script.specs.Cuts.{is_blank, skip_front, skip_back}

pub front_one : (text : List ℕ) → 0 < length text → is_blank (get_or text 0 0) ≡ true → skip_front (drop 1 text) ≡ skip_front text
front_one [] w b = refl
front_one (c ∷ text) w b = rw b refl

pub front_stop : (text : List ℕ) → 0 < length text → is_blank (get_or text 0 0) ≡ false → text ≡ skip_front text
front_stop [] w b = refl
front_stop (c ∷ text) w b = rw b refl

pub front_empty : (text : List ℕ) → length text ≡ 0 → text ≡ skip_front text
front_empty [] e = refl
front_empty (c ∷ text) e = absurd (omega arith)

pub back_empty : (text : List ℕ) → length text ≡ 0 → text ≡ skip_back text
back_empty [] e = refl
back_empty (c ∷ text) e = absurd (omega arith)

all_last : (text : List ℕ) (k : ℕ) → length text ≡ suc k → is_blank (get_or text k 0) ≡ true → list_all is_blank text ≡ list_all is_blank (take k text)
all_last [] k e b = absurd (omega arith)
all_last (c ∷ []) zero e b = rw b refl
all_last (c ∷ d ∷ text) zero e b = absurd (omega arith)
all_last (c ∷ text) (suc k) e b = ap (λ x. is_blank c && x) (all_last text k (omega arith) b)

back_one_at : (text : List ℕ) (k : ℕ) → length text ≡ suc k → is_blank (get_or text k 0) ≡ true → skip_back (take k text) ≡ skip_back text
back_one_at [] k e b = absurd (omega arith)
back_one_at (c ∷ []) zero e b = rw b refl
back_one_at (c ∷ d ∷ text) zero e b = absurd (omega arith)
back_one_at (c ∷ text) (suc k) e b = rw (all_last text k (omega arith) b) (ap (λ x. if is_blank c && list_all is_blank (take k text) then [] else c ∷ x) (back_one_at text k (omega arith) b))

pub back_one : (text : List ℕ) → 0 < length text → is_blank (get_or text (length text - 1) 0) ≡ true → skip_back (take (length text - 1) text) ≡ skip_back text
back_one text w b = back_one_at text (length text - 1) (omega arith) b

back_stop_at : (text : List ℕ) (k : ℕ) → length text ≡ suc k → is_blank (get_or text k 0) ≡ false → text ≡ skip_back text
back_stop_at [] k e b = refl
back_stop_at (c ∷ text) zero e b = one text (omega arith) (rw b refl)
  where
    one : (t : List ℕ) → length t ≡ 0 → (is_blank c && list_all is_blank t) ≡ false → c ∷ t ≡ (if is_blank c && list_all is_blank t then [] else c ∷ skip_back t)
    one [] q r = rw r refl
    one (d ∷ t) q r = absurd (omega arith)
back_stop_at (c ∷ text) (suc k) e b = more (is_blank c && list_all is_blank text) (and_false (is_blank c) (list_all is_blank text) (list_all_at is_blank text k 0 (omega arith) b)) (back_stop_at text k (omega arith) b)
  where
    and_false : (a x : Bool) → x ≡ false → (a && x) ≡ false
    and_false true x q = q
    and_false false x q = refl

    more : (t : Bool) → t ≡ false → text ≡ skip_back text → c ∷ text ≡ (if t then [] else c ∷ skip_back text)
    more true q ih = absurd (cc)
    more false q ih = ap (λ x. c ∷ x) ih

pub back_stop : (text : List ℕ) → 0 < length text → is_blank (get_or text (length text - 1) 0) ≡ false → text ≡ skip_back text
back_stop text w b = back_stop_at text (length text - 1) (omega arith) b

-- a blank is ASCII
pub blank_ascii : (c : ℕ) → is_blank c ≡ true → c < 128
blank_ascii c b = grind (arith, nat_tests)

-- the text but for its last byte, a blank
pub back_part : (text : List ℕ) → 0 < length text → is_blank (get_or text (length text - 1) 0) ≡ true → skip_back (slice_range text 0 (length text - 1)) ≡ skip_back text
back_part text w b = ap skip_back (ap (λ n. take n text) (let e : length text - 1 - 0 ≡ length text - 1 = omega arith in e)) ∙ back_one text w b

pub past_blank : (text : List ℕ) → IsUtf8 text → 0 < length text → is_blank (get_or text 0 0) ≡ true → IsPlace text 1
past_blank text utf8 w b = past_ascii text 0 utf8 w (blank_ascii (get_or text 0 0) b)
