-- A text has one answer.
use Rattle.std.proofs.Common.{◌≡◌, refl, ℕ, ◌<◌, ◌≤◌, List, [], length, ap, ap₂, sym, ◌∙◌, subst, arith, inl, inr, ◌⊎◌, Option, Some, None}
use Rattle.std.specs.Prelude.{true, Result, IfOk}
use Rattle.std.proofs.lemmas.Result.{IfOk-weaker}
use Rattle.text_base.specs.declared.memory.NoMemory.{NoMemory}
use Rattle.text_base.specs.declared.reasons.SelectorFault.{SelectorFault}
use Rattle.text_base.specs.declared.reasons.SelectorFault.TheVariants as fault
use Rattle.doc_model.specs.Document.{Document}
use Rattle.test_registry.specs.Names.{Known}
use Rattle.css_selectors.specs.declared.selector.Dialect.{Dialect}
use Rattle.css_printed.specs.Printed.{printed}
use Rattle.query_script.specs.Queries.{IsCssFault, IsXPathLong}
use Rattle.xpath_lexer.specs.Places.{most_xpath}
use Rattle.page_records.specs.Braces.{entries_of}
use Rattle.xpath_parser.specs.declared.expression.Expr.{Expr}
use Rattle.xpath_parser.specs.Reading.{ReadsOver}
use Rattle.extract_call.specs.declared.answers.Line.{Line}
use Rattle.extract_call.specs.Answers.{Answer, answer_of}
use Rattle.extract_call.specs.PageLines.{IsShownLine}
use Rattle.extract_call.proofs.PageReadings.{one_cause, refused_or_read}
use Rattle.extract_call.proofs.Readings.{one_reason, split}
use Rattle.refusal_places.specs.Beginnings.{most_placed}
use Rattle.refusal_places.specs.SelectorPlaces.{IsSelectorPlace}
use Rattle.refusal_places.specs.XPathPlaces.{IsXPathPlace}
use Rattle.refusal_texts.specs.declared.refusal.Refusal.TheVariants as refusal
use Rattle.why_call.specs.Answers.{nothing, refused_at, IsTold}
use Rattle.why_call.specs.inner.Below.{Below}
use Rattle.why_call.specs.Pages.{fault_text, IsPageAnswer, IsPageKept}
use Rattle.why_call.specs.Scripts.{said_answer, entries_said, IsScriptAnswer}
use Rattle.why_call.specs.Selectors.{IsSelectorTold, IsSelectorAnswer, IsSelectorKept, IsSelectorRefused, IsExpressionAnswer}

-- one place is told
told_once : (At : ℕ → Type 0) → ((p q : ℕ) → At p → At q → p ≡ q) → (text : List ℕ) (o r : Option ℕ) → IsTold At text o → IsTold At text r → o ≡ r
told_once At one text None None t u = refl
told_once At one text None (Some q) t u = let l : most_placed < length text = t in let s : length text ≤ most_placed = u.0 in absurd (omega arith)
told_once At one text (Some p) None t u = let l : most_placed < length text = u in let s : length text ≤ most_placed = t.0 in absurd (omega arith)
told_once At one text (Some p) (Some q) t u = ap Some (one p q t.1 u.1)

-- an expression is read
pub kept_expression : (tests : Known) (text : List ℕ) (x : Expr) (made : Result Line NoMemory) → ReadsOver tests text x → IfOk made (λ l. answer_of l ≡ nothing)
    → IfOk made (λ l. IsExpressionAnswer tests text (answer_of l))
kept_expression tests text x made reads h = IfOk-weaker made _ _ (λ l e. inl (record { expression = x; reads = reads; line = e })) h

-- a document shows nothing
abbrev shows_nothing : List ℕ → Document → Answer → Type 0
shows_nothing name doc a = a ≡ nothing

as_shown : (bytes : List ℕ) (a : Answer) → IsPageKept bytes a → IsShownLine shows_nothing [] bytes a
as_shown bytes a h = record { short = h.short; text = h.text; decodes = h.decodes; doc = h.doc; builds = h.builds; shown = h.line }

module _ (below : Below) where
  selector_told_once : (text : List ℕ) (f : SelectorFault) (o r : Option ℕ) → IsSelectorTold f text o → IsSelectorTold f text r → o ≡ r
  selector_told_once text fault.XPathLong o r t u = t ∙ sym u
  selector_told_once text _ o r t u = told_once (IsSelectorPlace text) (below.one_selector_place text) text o r t u

  -- a selector that is kept is not refused
  pub refused_not_kept : (d : Dialect) (text : List ℕ) (a : Answer) (why : SelectorFault) → IsCssFault d text why → IsSelectorKept d text a → ⊥
  refused_not_kept d text a why cause h = elim (split d text why cause) [
    | inl long ↦ too_long long.1
    | inr other ↦ below.lines.list_or_fault text h.list why h.accepted other
  ]
    where
      too_long : IsXPathLong d text → ⊥
      too_long r =
          let same : length (printed d r.list) ≡ length (printed d h.list) = ap (λ l. length (printed d l)) (below.lines.one_list text r.list h.list r.accepted h.accepted) in
          let long : most_xpath < length (printed d r.list) = r.long in
          let short : length (printed d h.list) ≤ most_xpath = h.short in omega arith

  pub kept_not_refused : (d : Dialect) (text : List ℕ) (a b : Answer) → IsSelectorKept d text a → IsSelectorRefused d text b → ⊥
  kept_not_refused d text a b h k = refused_not_kept d text a k.why k.cause h

  pub one_selector_answer : (d : Dialect) (text : List ℕ) (a b : Answer) → IsSelectorAnswer d text a → IsSelectorAnswer d text b → a ≡ b
  one_selector_answer d text a b (inl h) (inl k) = h.line ∙ sym k.line
  one_selector_answer d text a b (inl h) (inr k) = absurd (kept_not_refused d text a b h k)
  one_selector_answer d text a b (inr h) (inl k) = absurd (kept_not_refused d text b a k h)
  one_selector_answer d text a b (inr h) (inr k) =
      let same : h.why ≡ k.why = one_reason below.lines d text h.why k.why h.cause k.cause in
      let place : h.place ≡ k.place = selector_told_once text k.why h.place k.place (subst (λ w. IsSelectorTold w text h.place) same h.told) k.told in
      h.line ∙ (ap₂ (λ w p. refused_at (refusal.Css w) text p) same place ∙ sym k.line)

  pub one_expression_answer : (tests : Known) (text : List ℕ) (a b : Answer) → IsExpressionAnswer tests text a → IsExpressionAnswer tests text b → a ≡ b
  one_expression_answer tests text a b (inl h) (inl k) = h.line ∙ sym k.line
  one_expression_answer tests text a b (inl h) (inr k) = absurd (below.read_never_refused tests text h.expression k.why h.reads k.cause)
  one_expression_answer tests text a b (inr h) (inl k) = absurd (below.read_never_refused tests text k.expression h.why k.reads h.cause)
  one_expression_answer tests text a b (inr h) (inr k) =
      let same : h.why ≡ k.why = below.one_expression_fault tests text h.why k.why h.cause k.cause in
      let place : h.place ≡ k.place = told_once (IsXPathPlace tests text) (below.one_expression_place tests text) text h.place k.place h.told k.told in
      h.line ∙ (ap₂ (λ w p. refused_at (refusal.XPath w) text p) same place ∙ sym k.line)

  pub one_page_answer : (bytes : List ℕ) (a b : Answer) → IsPageAnswer bytes a → IsPageAnswer bytes b → a ≡ b
  one_page_answer bytes a b (inl h) (inl k) =
      h.line ∙ (ap (λ f. record { text = fault_text bytes f; refused = true }) (one_cause below.lines bytes h.fault k.fault h.cause k.cause) ∙ sym k.line)
  one_page_answer bytes a b (inl h) (inr k) = absurd (refused_or_read below.lines shows_nothing [] bytes h.fault b h.cause (as_shown bytes b k))
  one_page_answer bytes a b (inr h) (inl k) = absurd (refused_or_read below.lines shows_nothing [] bytes k.fault a k.cause (as_shown bytes a h))
  one_page_answer bytes a b (inr h) (inr k) = h.line ∙ sym k.line

  pub one_script_answer : (tests : Known) (d : Dialect) (script : List ℕ) (a b : Answer) → IsScriptAnswer tests d script a → IsScriptAnswer tests d script b → a ≡ b
  one_script_answer tests d script a b (inl h) (inl k) =
      h.line ∙ (ap (λ w. refused_at (refusal.Script w) [] None) (below.lines.one_script_fault script h.why k.why h.cause k.cause) ∙ sym k.line)
  one_script_answer tests d script a b (inl h) (inr k) = absurd (below.lines.read_or_refused tests d script k.entries h.why k.reads h.cause)
  one_script_answer tests d script a b (inr h) (inl k) = absurd (below.lines.read_or_refused tests d script h.entries k.why h.reads k.cause)
  one_script_answer tests d script a b (inr h) (inr k) =
      h.line ∙ (ap (λ es. said_answer (entries_said 1 (entries_of script) es)) (below.lines.one_script tests d script h.entries k.entries h.reads k.reads) ∙ sym k.line)
