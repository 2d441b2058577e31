-- A page has one line.
use Rattle.std.proofs.Common.{◌≡◌, refl, ℕ, List, [], ◌∷◌, length, ap, ap₂, sym, ◌∙◌, subst, arith, inl, inr, ◌≤◌, ◌<◌}
use Rattle.std.specs.Prelude.{Result, IfOk, true}
use Rattle.std.proofs.Math.Path.{fun_ext}
use Rattle.std.proofs.lemmas.Result.{IfOk-weaker}
use Rattle.text_base.specs.declared.memory.NoMemory.{NoMemory}
use Rattle.std.specs.List.{list_any}
use Rattle.text_base.specs.declared.reasons.PageFault.{PageFault}
use Rattle.doc_model.specs.Document.{Document}
use Rattle.html_reader.specs.Pages.{BuildsPage, IsPageFault}
use Rattle.test_registry.specs.Names.{Known}
use Rattle.json_lines.specs.Pages.{refused_text}
use Rattle.page_records.specs.declared.script.Entry.{Entry}
use Rattle.page_records.specs.declared.script.EntryValue.{EntryValue}
use Rattle.page_records.specs.Lines.{line_text, holds_refusal}
use Rattle.extract_call.specs.declared.answers.Line.{Line}
use Rattle.extract_call.specs.declared.asked.Asked.{Asked}
use Rattle.extract_call.specs.declared.asked.Asked.TheVariants.{Values, Markup}
use Rattle.extract_call.specs.Answers.{Answer, answer_of}
use Rattle.extract_call.specs.inner.Asked.{shown_by}
use Rattle.extract_call.specs.Below.{Below}
use Rattle.extract_call.specs.inner.OnePage.{IsTextLine}
use Rattle.extract_call.specs.PageLines.{most_page, too_long, IsNoTree, IsPageRefused, AreValues, IsShownLine, IsValuesLine, IsMarkupLine, IsPageLine, MakesLines}

same_fault : (f g : PageFault) → f.reason ≡ g.reason → f.at ≡ g.at → f ≡ g
same_fault f g p q = ap₂ (λ r a. record { reason = r; at = a }) p q

-- a document shows one line
abbrev pub ShowsOne : (List ℕ → Document → Answer → Type 0) → Type 0
ShowsOne shows = (name : List ℕ) (doc : Document) (a b : Answer) → shows name doc a → shows name doc b → a ≡ b

-- the line of a page with too many bytes
pub long_line : (shows : List ℕ → Document → Answer → Type 0) (name bytes : List ℕ) (made : Result Line NoMemory) → most_page < length bytes
    → IfOk made (λ l. answer_of l ≡ record { text = refused_text name too_long; refused = true }) → IfOk made (λ l. IsPageLine shows name bytes (answer_of l))
long_line shows name bytes made long h = IfOk-weaker made _ _ (λ l e. inl (record { fault = too_long; cause = inl (record { long = long; is = refl }); line = e })) h

-- the line of a document that was read of the text
pub built_line : (shows : List ℕ → Document → Answer → Type 0) (name text : List ℕ) (made : Result Line NoMemory) (doc : Document) → BuildsPage text doc
    → IfOk made (λ l. shows name doc (answer_of l)) → IfOk made (λ l. IsTextLine shows name text (answer_of l))
built_line shows name text made doc builds h = IfOk-weaker made _ _ (λ l is. inr (record { doc = doc; builds = builds; shown = is })) h

one_markup_line : ShowsOne IsMarkupLine
one_markup_line name doc a b h k = h ∙ sym k

-- ---- what follows from what the crates below promise

module _ (below : Below) where
  tree_faults : (bytes : List ℕ) (f g : PageFault) → IsNoTree bytes f → IsNoTree bytes g → f ≡ g
  tree_faults bytes f g h k =
      let t : h.text ≡ k.text = (let x = h.decodes in let y = k.decodes in cc) in
      let same = below.one_page_fault k.text f.reason g.reason f.at g.at (subst (λ x. IsPageFault x f.reason f.at) t h.is) k.is in
      same_fault f g same.0 same.1

  -- a page is refused for one reason
  pub one_cause : (bytes : List ℕ) (f g : PageFault) → IsPageRefused bytes f → IsPageRefused bytes g → f ≡ g
  one_cause bytes f g (inl h) (inl k) = h.is ∙ sym k.is
  one_cause bytes f g (inl h) (inr (inl k)) = let l : most_page < length bytes = h.long in let s : length bytes ≤ most_page = k.short in absurd (omega arith)
  one_cause bytes f g (inl h) (inr (inr k)) = let l : most_page < length bytes = h.long in let s : length bytes ≤ most_page = k.short in absurd (omega arith)
  one_cause bytes f g (inr (inl h)) (inl k) = let l : most_page < length bytes = k.long in let s : length bytes ≤ most_page = h.short in absurd (omega arith)
  one_cause bytes f g (inr (inr h)) (inl k) = let l : most_page < length bytes = k.long in let s : length bytes ≤ most_page = h.short in absurd (omega arith)
  one_cause bytes f g (inr (inl h)) (inr (inl k)) = let x = h.is in let y = k.is in cc
  one_cause bytes f g (inr (inl h)) (inr (inr k)) = let x = h.is in let y = k.decodes in absurd (cc)
  one_cause bytes f g (inr (inr h)) (inr (inl k)) = let x = h.decodes in let y = k.is in absurd (cc)
  one_cause bytes f g (inr (inr h)) (inr (inr k)) = tree_faults bytes f g h k

  -- a page that is refused has no values
  pub refused_or_read : (shows : List ℕ → Document → Answer → Type 0) (name bytes : List ℕ) (f : PageFault) (a : Answer) → IsPageRefused bytes f → IsShownLine shows name bytes a → ⊥
  refused_or_read shows name bytes f a (inl h) k = let l : most_page < length bytes = h.long in let s : length bytes ≤ most_page = k.short in omega arith
  refused_or_read shows name bytes f a (inr (inl h)) k = let x = h.is in let y = k.decodes in cc
  refused_or_read shows name bytes f a (inr (inr h)) k =
      let t : k.text ≡ h.text = (let x = h.decodes in let y = k.decodes in cc) in
      below.page_never_both h.text k.doc f.reason f.at (subst (λ x. BuildsPage x k.doc) t k.builds) h.is

  one_values : (tests : Known) (doc : Document) (entries : List Entry) (values other : List EntryValue) → AreValues tests doc entries values → AreValues tests doc entries other → values ≡ other
  one_values tests doc [] [] [] h k = refl
  one_values tests doc [] [] (w ∷ other) h k = absurd k
  one_values tests doc [] (v ∷ values) other h k = absurd h
  one_values tests doc (e ∷ entries) [] other h k = absurd h
  one_values tests doc (e ∷ entries) (v ∷ values) [] h k = absurd k
  one_values tests doc (e ∷ entries) (v ∷ values) (w ∷ other) h k = ap₂ ◌∷◌ (below.one_value tests doc e v w h.0 k.0) (one_values tests doc entries values other h.1 k.1)

  one_values_line : (tests : Known) (entries : List Entry) → ShowsOne (IsValuesLine tests entries)
  one_values_line tests entries name doc a b h k =
      h.line ∙ ap (λ vs. record { text = line_text name entries vs; refused = list_any holds_refusal vs }) (one_values tests doc entries h.values k.values h.are k.are) ∙ sym k.line

  shown_lines : (shows : List ℕ → Document → Answer → Type 0) → ShowsOne shows → (name bytes : List ℕ) (a b : Answer) → IsShownLine shows name bytes a → IsShownLine shows name bytes b → a ≡ b
  shown_lines shows one name bytes a b h k =
      let t : h.text ≡ k.text = (let x = h.decodes in let y = k.decodes in cc) in
      let d : h.doc ≡ k.doc = below.one_document k.text h.doc k.doc (subst (λ x. BuildsPage x h.doc) t h.builds) k.builds in
      one name k.doc a b (subst (λ x. shows name x a) d h.shown) k.shown

  line_of_page : (shows : List ℕ → Document → Answer → Type 0) → ShowsOne shows → (name bytes : List ℕ) (a b : Answer) → IsPageLine shows name bytes a → IsPageLine shows name bytes b → a ≡ b
  line_of_page shows one name bytes a b (inl h) (inl k) =
      h.line ∙ ap (λ f. record { text = refused_text name f; refused = true }) (one_cause bytes h.fault k.fault h.cause k.cause) ∙ sym k.line
  line_of_page shows one name bytes a b (inl h) (inr k) = absurd (refused_or_read shows name bytes h.fault b h.cause k)
  line_of_page shows one name bytes a b (inr h) (inl k) = absurd (refused_or_read shows name bytes k.fault a k.cause h)
  line_of_page shows one name bytes a b (inr h) (inr k) = shown_lines shows one name bytes a b h k

  pub one_page_line : (tests : Known) (entries : List Entry) (name bytes : List ℕ) (a b : Answer) → IsPageLine (IsValuesLine tests entries) name bytes a → IsPageLine (IsValuesLine tests entries) name bytes b → a ≡ b
  one_page_line tests entries = line_of_page (IsValuesLine tests entries) (one_values_line tests entries)

  pub one_asked_line : (tests : Known) (asked : Asked) (name bytes : List ℕ) (a b : Answer) → IsPageLine (shown_by tests asked) name bytes a → IsPageLine (shown_by tests asked) name bytes b → a ≡ b
  one_asked_line tests (Values entries ready) = one_page_line tests entries.now
  one_asked_line tests Markup = line_of_page IsMarkupLine one_markup_line

  -- what makes the lines of pages by what their documents show is one function
  same_lines : (shows : List ℕ → Document → Answer → Type 0) → ShowsOne shows → (l m : List ℕ → List ℕ → Answer) → MakesLines shows l → MakesLines shows m → l ≡ m
  same_lines shows one l m h k = fun_ext (λ name. fun_ext (λ bytes. line_of_page shows one name bytes (l name bytes) (m name bytes) (h name bytes) (k name bytes)))

  pub same_values_lines : (tests : Known) (entries : List Entry) (l m : List ℕ → List ℕ → Answer) → MakesLines (IsValuesLine tests entries) l → MakesLines (IsValuesLine tests entries) m → l ≡ m
  same_values_lines tests entries = same_lines (IsValuesLine tests entries) (one_values_line tests entries)

  pub same_markup_lines : (l m : List ℕ → List ℕ → Answer) → MakesLines IsMarkupLine l → MakesLines IsMarkupLine m → l ≡ m
  same_markup_lines = same_lines IsMarkupLine one_markup_line
