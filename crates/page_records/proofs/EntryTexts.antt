-- The pieces of a UTF-8 script are UTF-8, and so are the parts of a block: a text is cut at ASCII bytes alone.
use Rattle.std.proofs.Common.{◌≡◌, ℕ, ◌<◌, Bool, true, false, List, [], ◌∷◌, ◌++◌, refl, sym, subst, arith, append_assoc, ◌⊎◌, inl, inr}
use Rattle.std.specs.Prelude.{◌==◌, ◌&&◌, not, if◌then◌else◌}
use Rattle.std.specs.List.{AllByRecursion}
use Rattle.std.specs.Str.{IsUtf8}
use Rattle.std.proofs.lemmas.Bool.Decides.{nat_tests}
use Rattle.std.proofs.lemmas.List.{append-nil}
use Rattle.std.proofs.lemmas.List.Elements.{All-contains, All-from_recursion}
use Rattle.std.proofs.lemmas.Str.{IsUtf8-nil}
use Rattle.query_script.specs.declared.steps.RawStep.{RawStep}
use Rattle.query_script.specs.declared.steps.RawStep.TheVariants as raw
use Rattle.query_script.specs.Cuts.{quote_after, onto_first, ends_field, fields_of}
use Rattle.query_script.specs.Names.{after_colon}
use Rattle.query_script.proofs.OrderedLemmas.{StepUtf8, cut_utf8, rest_utf8, fields_utf8, field_selector_utf8}
use Rattle.query_script.proofs.Utf8Lemmas.{AreUtf8, FirstUtf8, all_utf8, one_onto, utf8_before, utf8_after, written_utf8}
use Rattle.page_records.specs.Braces.{opens, closes, stands, before_outside, after_outside, open_after, block_pieces, entries_of}
use Rattle.page_records.specs.Blocks.{IsWritten}
use Rattle.page_records.specs.Selectors.{IsStepSelector, IsBodySelector, IsEntrySelector, IsSelectorText}
use Rattle.page_records.proofs.CutLemmas.{cut_ascii}

-- ---- the pieces

first_utf8 : (begun : Bool) (text u : List ℕ) (q : ℕ) → IsUtf8 (u ++ text) → FirstUtf8 u (block_pieces begun q text)
first_utf8 begun [] u q h = (h, tt)
first_utf8 begun (c ∷ text) u q h = by_cut ((q == 0) && (ends_field c && not (begun && stands closes 0 text))) refl (λ now v p g. first_utf8 now text v p g)
  where
    by_cut : (b : Bool) → ((q == 0) && (ends_field c && not (begun && stands closes 0 text))) ≡ b →
        ((now : Bool) (v : List ℕ) (p : ℕ) → IsUtf8 (v ++ text) → FirstUtf8 v (block_pieces now p text)) →
        FirstUtf8 u (if b then [] ∷ block_pieces begun 0 text else onto_first c (block_pieces (open_after begun q c) (quote_after q c) text))
    by_cut true e go =
        let ascii = cut_ascii begun q c (stands closes 0 text) e in
        (subst IsUtf8 (sym (append-nil u)) (utf8_before u c text ascii h), all_utf8 (block_pieces begun 0 text) (go begun [] 0 (utf8_after u c text ascii h)))
    by_cut false e go =
        one_onto u c (block_pieces (open_after begun q c) (quote_after q c) text) (go (open_after begun q c) (u ++ c ∷ []) (quote_after q c) (subst IsUtf8 (sym (append_assoc u (c ∷ []) text)) h))

pub entries_utf8 : (text : List ℕ) → IsUtf8 text → AreUtf8 (entries_of text)
entries_utf8 text h = written_utf8 (block_pieces false 0 text) (all_utf8 (block_pieces false 0 text) (first_utf8 false text [] 0 h))

-- ---- before and after a brace

module _ (is : ℕ → Bool) (ascii : (q c : ℕ) → ((q == 0) && is c) ≡ true → c < 128) where
  before_utf8 : (text u : List ℕ) (q : ℕ) → IsUtf8 (u ++ text) → IsUtf8 (u ++ before_outside is q text)
  before_utf8 [] u q h = h
  before_utf8 (c ∷ text) u q h = by_test ((q == 0) && is c) refl (λ v p g. before_utf8 text v p g)
    where
      by_test : (b : Bool) → ((q == 0) && is c) ≡ b → ((v : List ℕ) (p : ℕ) → IsUtf8 (v ++ text) → IsUtf8 (v ++ before_outside is p text)) →
          IsUtf8 (u ++ (if b then [] else c ∷ before_outside is (quote_after q c) text))
      by_test true e go = subst IsUtf8 (sym (append-nil u)) (utf8_before u c text (ascii q c e) h)
      by_test false e go =
          subst IsUtf8 (append_assoc u (c ∷ []) (before_outside is (quote_after q c) text)) (go (u ++ c ∷ []) (quote_after q c) (subst IsUtf8 (sym (append_assoc u (c ∷ []) text)) h))

  after_utf8 : (text u : List ℕ) (q : ℕ) → IsUtf8 (u ++ text) → IsUtf8 (after_outside is q text)
  after_utf8 [] u q h = IsUtf8-nil
  after_utf8 (c ∷ text) u q h = by_test ((q == 0) && is c) refl (λ v p g. after_utf8 text v p g)
    where
      by_test : (b : Bool) → ((q == 0) && is c) ≡ b → ((v : List ℕ) (p : ℕ) → IsUtf8 (v ++ text) → IsUtf8 (after_outside is p text)) →
          IsUtf8 (if b then text else after_outside is (quote_after q c) text)
      by_test true e go = utf8_after u c text (ascii q c e) h
      by_test false e go = go (u ++ c ∷ []) (quote_after q c) (subst IsUtf8 (sym (append_assoc u (c ∷ []) text)) h)

open_ascii : (q c : ℕ) → ((q == 0) && opens c) ≡ true → c < 128
open_ascii q c e = grind (arith, nat_tests)

close_ascii : (q c : ℕ) → ((q == 0) && closes c) ≡ true → c < 128
close_ascii q c e = grind (arith, nat_tests)

-- ---- a block

module _ (text : List ℕ) (written : List RawStep) (body : List ℕ) (h : IsWritten text written body) (utf8 : IsUtf8 text) where
  -- the steps that stand before its `each`
  pub block_steps_utf8 : AllByRecursion StepUtf8 written
  block_steps_utf8 =
      let front : IsUtf8 h.front = utf8_before h.front 46 h.parts.word (omega arith) (subst IsUtf8 h.parts.head (before_utf8 opens open_ascii text [] 0 utf8)) in
      cut_utf8 h.front written h.are front

  -- the fields of its body
  pub block_fields_utf8 : AreUtf8 (fields_of body)
  block_fields_utf8 =
      let inside : IsUtf8 (before_outside closes 0 (after_outside opens 0 text)) = before_utf8 closes close_ascii (after_outside opens 0 text) [] 0 (after_utf8 opens open_ascii text [] 0 utf8) in
      fields_utf8 body (subst IsUtf8 (sym h.parts.is) inside)

-- ---- selectors

module _ (piece text : List ℕ) (utf8 : IsUtf8 piece) where
  step_selector : IsStepSelector piece text → IsUtf8 text
  step_selector s =
      let each : AllByRecursion StepUtf8 s.written = block_steps_utf8 (after_colon piece) s.written s.body s.is (rest_utf8 piece s.named utf8) in
      subst IsUtf8 (sym s.is_text) (All-contains StepUtf8 s.written (raw.Css s.value) (All-from_recursion StepUtf8 s.written each) s.step)

  body_selector : IsBodySelector piece text → IsUtf8 text
  body_selector s =
      let each : AreUtf8 (fields_of s.body) = block_fields_utf8 (after_colon piece) s.written s.body s.is (rest_utf8 piece s.named utf8) in
      field_selector_utf8 s.field text (All-contains IsUtf8 (fields_of s.body) s.field (All-from_recursion IsUtf8 (fields_of s.body) each) s.at) s.of

  block_selector : IsStepSelector piece text ⊎ IsBodySelector piece text → IsUtf8 text
  block_selector (inl s) = step_selector s
  block_selector (inr s) = body_selector s

  entry_selector : IsEntrySelector piece text → IsUtf8 text
  entry_selector (inl s) = field_selector_utf8 piece text utf8 s.1
  entry_selector (inr s) = block_selector s.1

pub selector_utf8 : (script text : List ℕ) → IsUtf8 script → IsSelectorText script text → IsUtf8 text
selector_utf8 script text utf8 h =
    let piece : IsUtf8 h.piece = All-contains IsUtf8 (entries_of script) h.piece (All-from_recursion IsUtf8 (entries_of script) (entries_utf8 script utf8)) h.entry in
    entry_selector h.piece text piece h.of
