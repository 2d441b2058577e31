-- What a backslash takes with it, and content unit by unit.
use Rattle.std.proofs.Common.{◌≡◌, ℕ, ◌+◌, ◌-◌, ◌<◌, ◌≤◌, true, cond, List, [], ◌∷◌, ◌++◌, length, get_or, take, drop, IsUtf8, refl, sym, ◌∙◌, ap, subst, arith, append_assoc, ltb, eqb-true}
use Rattle.std.specs.Prelude.{◌==◌, ◌&&◌, slice_range}
use Rattle.std.proofs.lemmas.List.{append-nil}
use Rattle.std.proofs.lemmas.Bool.Decides.{nat_tests}
use Rattle.text_base.specs.Text.{run_end, IsPlace}
use Rattle.text_base.proofs.Boundaries.{in_text, past_byte}
use Rattle.text_base.proofs.Runs.{run_end_le, run_end_from}
use Rattle.css_lexer.specs.declared.contents.Content.{Content}
use Rattle.css_lexer.specs.declared.contents.Content.TheVariants.{Name, Double, Single}
use Rattle.css_lexer.specs.Escapes.{is_break, escape_len, escape_value}
use Rattle.css_lexer.specs.Contents.{is_plain, newline_len, lost_len, slashed_len, slashed_value, unit_len, unit_value}
use Rattle.css_lexer.specs.inner.Pushing.{Pushes}
use Rattle.css_lexer.proofs.EscapeLemmas.{cases_if, both_true, fits_if, zero_if, escape_fits, no_escape}

break_some : (b : ℕ) → is_break b ≡ true → 0 < b
break_some b h = grind (arith, nat_tests)

break_low : (b : ℕ) → is_break b ≡ true → b < 128
break_low b h = grind (arith, nat_tests)

-- the place after a newline
newline_place : (text : List ℕ) (i n : ℕ) → IsUtf8 text → n ≡ newline_len text i → 0 < n → IsPlace text (i + n)
newline_place text i n utf8 e some =
    let Goal : ℕ → Type 0 = λ m. n ≡ m → IsPlace text (i + n) in
    cases_if ((get_or text i 0 == 13) && (get_or text (i + 1) 0 == 10)) 2 (cond (is_break (get_or text i 0)) 1 0) Goal
    (λ h f. let lf = eqb-true (get_or text (i + 1) 0) 10 (both_true (get_or text i 0 == 13) (get_or text (i + 1) 0 == 10) h).1 in past_byte text (i + 1) _ utf8 (omega arith) (omega arith) (omega arith))
    (λ h. cases_if (is_break (get_or text i 0)) 1 0 Goal
    (λ k f. past_byte text i _ utf8 (omega arith) (break_some _ k) (break_low _ k))
    (λ k f. absurd (omega arith)))
    e

newline_fits : (text : List ℕ) (i : ℕ) → i ≤ length text → i + newline_len text i ≤ length text
newline_fits text i low =
    fits_if ((get_or text i 0 == 13) && (get_or text (i + 1) 0 == 10)) i 2 _ _
    (λ h. let l = in_text text (i + 1) (omega (arith, eqb-true (get_or text (i + 1) 0) 10 (both_true (get_or text i 0 == 13) (get_or text (i + 1) 0 == 10) h).1)) in omega arith)
    (λ _. fits_if (is_break (get_or text i 0)) i 1 0 _ (λ h. let l = in_text text i (break_some _ h) in omega arith) (λ _. omega arith))

pub lost_place : (content : Content) (text : List ℕ) (i j n : ℕ) → IsUtf8 text → n ≡ lost_len content text i → 0 < n → j ≡ i + n → IsPlace text j
lost_place Name text i j n utf8 e some is = absurd (omega arith)
lost_place Double text i j n utf8 e some is = subst (IsPlace text) (sym is) (newline_place text i n utf8 e some)
lost_place Single text i j n utf8 e some is = subst (IsPlace text) (sym is) (newline_place text i n utf8 e some)

lost_fits : (content : Content) (text : List ℕ) (i : ℕ) → i ≤ length text → i + lost_len content text i ≤ length text
lost_fits Name text i low = omega arith
lost_fits Double text i low = newline_fits text i low
lost_fits Single text i low = newline_fits text i low

pub no_bytes : (xs : List ℕ) → xs ≡ xs ++ []
no_bytes xs = sym (append-nil xs)

-- a unit stays in the text
pub unit_fits : (content : Content) (text : List ℕ) (i : ℕ) → i ≤ length text → i + unit_len content text i ≤ length text
unit_fits content text i low =
    fits_if (get_or text i 0 == 92) i (slashed_len content text i) (run_end (is_plain content) text i - i) _
    (λ h. let inside = in_text text i (omega (arith, eqb-true (get_or text i 0) 92 h)) in
    fits_if (ltb 0 (lost_len content text (i + 1))) i (1 + lost_len content text (i + 1)) (escape_len text i) _
    (λ _. omega (arith, lost_fits content text (i + 1) (omega arith)))
    (λ _. escape_fits text i inside))
    (λ _. omega (arith, run_end_le (is_plain content) text i low, run_end_from (is_plain content) text i))

-- a unit of no length stands for nothing
no_unit : (content : Content) (text : List ℕ) (i : ℕ) → unit_len content text i ≡ 0 → unit_value content text i ≡ []
no_unit content text i e =
    let run = run_end (is_plain content) text i in
    let lost = lost_len content text (i + 1) in
    zero_if (get_or text i 0 == 92) (slashed_len content text i) (run - i) (slashed_value content text i) (slice_range text i run)
    (λ e. zero_if (ltb 0 lost) (1 + lost) (escape_len text i) [] (escape_value text i) (λ e. absurd (omega arith)) (no_escape text i) e)
    (λ e. ap (λ n. take n (drop i text)) e)
    e

-- no unit more
pub pushes_none : (content : Content) (text : List ℕ) (i n : ℕ) (old new : List ℕ) → n ≡ unit_len content text i → n ≡ 0 → new ≡ old ++ unit_value content text i → Pushes content text i old i new
pushes_none content text i n old new e none is =
    record { value = []; reads = record { places = []; steps = (refl, sym e ∙ none); spelled = refl }; added = is ∙ ap (λ x. old ++ x) (no_unit content text i (sym e ∙ none)) }

-- a unit, and what comes after it
pub pushes_more : (content : Content) (text : List ℕ) (i k n j : ℕ) (old mid new : List ℕ) → n ≡ unit_len content text i → k ≡ i + n → 0 < n → mid ≡ old ++ unit_value content text i → Pushes content text k mid j new → Pushes content text i old j new
pushes_more content text i k n j old mid new e to some is later =
    let value = unit_value content text i in
    let rest : Pushes content text (i + unit_len content text i) mid j new = subst (λ m. Pushes content text m mid j new) (to ∙ ap (λ m. i + m) e) later in
    record {
      value = value ++ rest.value;
      reads = record {
        places = i ∷ rest.reads.places;
        steps = (refl, omega arith, rest.reads.steps);
        spelled = ap (λ x. value ++ x) rest.reads.spelled;
      };
      added = rest.added ∙ ap (λ x. x ++ rest.value) is ∙ append_assoc old value rest.value;
    }
