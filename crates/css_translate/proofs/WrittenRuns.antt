-- The runs of a literal as they are written, and the places of apostrophes.
use Rattle.std.proofs.Common.{◌≡◌, ℕ, suc, ◌+◌, ◌-◌, ◌<◌, ◌≤◌, Bool, true, false, List, [], ◌∷◌, ◌++◌, length, take, drop, sym, ◌∙◌, ap, arith, subst}
use Rattle.std.specs.Prelude.{slice_index, slice_range}
use Rattle.std.specs.List.{prefix_len}
use Rattle.std.specs.Str.{IsUtf8}
use Rattle.std.proofs.Math.Seq.{drop-cons}
use Rattle.std.proofs.lemmas.List.{drop-drop}
use Rattle.std.proofs.lemmas.Bool.Decides.{nat_tests}
use Rattle.text_base.specs.Text.{run_end, IsPlace}
use Rattle.text_base.proofs.Runs.{run_end_step}
use Rattle.text_base.proofs.Boundaries.{past_ascii}
use Rattle.css_printed.specs.Literals.{is_apostrophe, quote_of, quoted_runs}
use Rattle.css_translate.specs.inner.Runs.{WritesRun, InApostrophes}
use Rattle.css_printed.proofs.LiteralRuns.{same_quote, run_of, first_run}

-- the run that begins at a place, from its first byte
pub writes : (text : List ℕ) (from to c q : ℕ) (p : ℕ → Bool) (before now : List ℕ) → from < length text → c ≡ slice_index text from → same_quote c ≡ p → quote_of c ≡ q
    → to ≡ run_end p text from → from < to → to ≤ length text → IsPlace text to → now ≡ before ++ (q ∷ (slice_range text from to ++ (q ∷ []))) → WritesRun text from to before now
writes text from to c q p before now lt at same quote end moves within place written =
    let front : drop from text ≡ c ∷ drop (suc from) text = drop-cons text from 0 lt ∙ ap (λ b. b ∷ drop (suc from) text) (sym at) in
    let n : prefix_len (same_quote c) (drop from text) ≡ to - from = ap (λ r. prefix_len r (drop from text)) same ∙ omega (arith, end) in
    let runs : quoted_runs (drop from text) ≡ run_of (quote_of c) (drop from text) (prefix_len (same_quote c) (drop from text)) =
    (let P : List ℕ → Type 0 = λ x. quoted_runs x ≡ run_of (quote_of c) x (prefix_len (same_quote c) x) in subst P (sym front) (first_run c (drop (suc from) text))) in
    let rest : drop (to - from) (drop from text) ≡ drop to text = drop-drop (to - from) from text ∙ ap (λ k. drop k text) (omega arith) in
    record {
      run = record { quote = q; content = slice_range text from to };
      first = runs ∙ ap (run_of (quote_of c) (drop from text)) n ∙ ap (λ k. record { quote = k; content = take (to - from) (drop from text) } ∷ quoted_runs (drop (to - from) (drop from text))) quote
          ∙ ap (λ r. record { quote = q; content = take (to - from) (drop from text) } ∷ quoted_runs r) rest;
      written = written;
      moves = moves;
      within = within;
      place = place;
    }

-- the places of apostrophes
pub one_apostrophe : (text : List ℕ) (from at : ℕ) → IsUtf8 text → at < length text → slice_index text at ≡ 39 → run_end is_apostrophe text from ≡ run_end is_apostrophe text at
    → from ≤ at → InApostrophes text from (at + 1)
one_apostrophe text from at utf8 lt is end le =
    let here : is_apostrophe (slice_index text at) ≡ true = ap is_apostrophe is in
    let ascii : slice_index text at < 128 = omega arith in
    record {
      same_end = end ∙ run_end_step is_apostrophe text at lt here;
      moves = omega arith;
      within = omega arith;
      place = past_ascii text at utf8 lt ascii;
    }

pub other_byte : (b : ℕ) → (b ≡ 39 → ⊥) → is_apostrophe b ≡ false
other_byte b h = grind (arith, nat_tests)
