-- Each question has one plan at most, and its reasons are those of `extract`.
use Rattle.std.proofs.Common.{◌≡◌, refl, ℕ, true, false, List, [], ◌∷◌, ap, ap₂, sym, ◌∙◌, subst, inl, inr, ◌⊎◌}
use Rattle.std.specs.Prelude.{Result, IfOk}
use Rattle.std.proofs.Math.Path.{fun_ext}
use Rattle.std.proofs.lemmas.Result.{IfOk-weaker}
use Rattle.text_base.specs.declared.memory.NoMemory.{NoMemory}
use Rattle.doc_model.specs.Document.{Document}
use Rattle.test_registry.specs.Names.{Known}
use Rattle.css_selectors.specs.declared.selector.Dialect.{Dialect}
use Rattle.page_records.specs.declared.script.Entry.{Entry}
use Rattle.extract_call.specs.declared.answers.Line.{Line}
use Rattle.extract_call.specs.Answers.{Answer, answer_of}
use Rattle.extract_call.specs.CssLines.{IsCssLine}
use Rattle.extract_call.specs.PageLines.{IsRefusedPageLine, IsShownLine, IsValuesLine, IsMarkupLine}
use Rattle.extract_call.specs.Plans.{Plan, alone, over, IsScriptRefused, IsByScript}
use Rattle.extract_call.proofs.PageReadings.{one_cause, refused_or_read}
use Rattle.extract_call.proofs.Readings.{one_reason}
use Rattle.why_call.specs.Answers.{nothing}
use Rattle.why_call.specs.inner.Below.{Below}
use Rattle.why_call.specs.Laws.{OnePlan, SameReason, SameSelector, SamePage, SameScript}
use Rattle.why_call.specs.Pages.{IsPageAnswer, IsPageKept, MakesAnswers}
use Rattle.why_call.specs.Plans.{IsPlan}
use Rattle.why_call.specs.Scripts.{IsScriptAnswer, IsScriptAnswerRefused, IsScriptRead}
use Rattle.why_call.specs.Selectors.{IsSelectorAnswer, IsExpressionAnswer}
use Rattle.why_call.specs.Words.{css, xpath, script, page}
use Rattle.why_call.proofs.OneAnswer.{kept_not_refused, refused_not_kept, one_selector_answer, one_expression_answer, one_page_answer, one_script_answer}

-- what holds of all that makes the answers of pages holds of the plan
pub of_page : (tests : Known) (name : List ℕ) (P : Plan → Type 0) → ((line : List ℕ → List ℕ → Answer) → MakesAnswers line → P (over line (name ∷ [])))
    → (plan : Plan) → IsPlan tests (page name) plan → P plan
of_page tests name P each (alone a) h = absurd h
of_page tests name P each (over line names) h = subst (λ x. P (over line x)) (sym h.0) (each line h.1)

module _ (below : Below) where
  pub one_plan : OnePlan
  one_plan tests (css d s) (alone a) (alone b) h k = ap alone (one_selector_answer below d s a b h k)
  one_plan tests (css d s) (alone a) (over m q) h k = absurd k
  one_plan tests (css d s) (over l p) other h k = absurd h
  one_plan tests (xpath s) (alone a) (alone b) h k = ap alone (one_expression_answer below tests s a b h k)
  one_plan tests (xpath s) (alone a) (over m q) h k = absurd k
  one_plan tests (xpath s) (over l p) other h k = absurd h
  one_plan tests (script d s) (alone a) (alone b) h k = ap alone (one_script_answer below tests d s a b h k)
  one_plan tests (script d s) (alone a) (over m q) h k = absurd k
  one_plan tests (script d s) (over l p) other h k = absurd h
  one_plan tests (page name) (alone a) other h k = absurd h
  one_plan tests (page name) (over l p) (alone b) h k = absurd k
  one_plan tests (page name) (over l p) (over m q) h k =
      ap₂ over (fun_ext (λ x. fun_ext (λ bytes. one_page_answer below bytes (l x bytes) (m x bytes) (h.1 x bytes) (k.1 x bytes)))) (h.0 ∙ sym k.0)

  -- ---- what holds of the answer that was made holds of the plan

  module _ (tests : Known) (made : Result Line NoMemory) (P : Plan → Type 0) (each : (a : Answer) → IfOk made (λ l. answer_of l ≡ a) → P (alone a)) where
    pub of_selector : (d : Dialect) (text : List ℕ) → IfOk made (λ l. IsSelectorAnswer d text (answer_of l)) → (plan : Plan) → IsPlan tests (css d text) plan → P plan
    of_selector d text line (alone a) h = each a (IfOk-weaker made _ _ (λ l is. one_selector_answer below d text (answer_of l) a is h) line)
    of_selector d text line (over makes names) h = absurd h

    pub of_expression : (text : List ℕ) → IfOk made (λ l. IsExpressionAnswer tests text (answer_of l)) → (plan : Plan) → IsPlan tests (xpath text) plan → P plan
    of_expression text line (alone a) h = each a (IfOk-weaker made _ _ (λ l is. one_expression_answer below tests text (answer_of l) a is h) line)
    of_expression text line (over makes names) h = absurd h

    pub of_script : (d : Dialect) (text : List ℕ) → IfOk made (λ l. IsScriptAnswer tests d text (answer_of l)) → (plan : Plan) → IsPlan tests (script d text) plan → P plan
    of_script d text line (alone a) h = each a (IfOk-weaker made _ _ (λ l is. one_script_answer below tests d text (answer_of l) a is h) line)
    of_script d text line (over makes names) h = absurd h

  -- ---- the reasons

  same_selector : (d : Dialect) (text : List ℕ) (a b : Answer) → SameSelector d text a b
  same_selector d text a b = record { truth = truth; reason = λ line answer. one_reason below.lines d text line.why answer.why line.cause answer.cause }
    where
      truth : IsCssLine d text a → IsSelectorAnswer d text b → a.refused ≡ b.refused
      truth (inl h) (inl k) = ap (λ (x : Answer). x.refused) h.line ∙ sym (ap (λ (x : Answer). x.refused) k.line)
      truth (inl h) (inr k) = absurd (kept_not_refused below d text nothing b (record { list = h.list; accepted = h.accepted; short = h.short; line = refl }) k)
      truth (inr h) (inl k) = absurd (refused_not_kept below d text b h.why h.cause k)
      truth (inr h) (inr k) = ap (λ (x : Answer). x.refused) h.line ∙ sym (ap (λ (x : Answer). x.refused) k.line)

  shown_kept : (shows : List ℕ → Document → Answer → Type 0) (name bytes : List ℕ) (a b : Answer) → IsShownLine shows name bytes a → IsPageAnswer bytes b → b ≡ nothing
  shown_kept shows name bytes a b h (inl k) = absurd (refused_or_read below.lines shows name bytes k.fault a k.cause h)
  shown_kept shows name bytes a b h (inr k) = k.line

  same_page : (tests : Known) (entries : List Entry) (name bytes : List ℕ) (a b : Answer) → SamePage tests entries name bytes a b
  same_page tests entries name bytes a b = record {
    refused = refused;
    reason = λ line answer. one_cause below.lines bytes line.fault answer.fault line.cause answer.cause;
    valued = shown_kept (IsValuesLine tests entries) name bytes a b;
    marked = shown_kept IsMarkupLine name bytes a b;
  }
    where
      as_shown : IsPageKept bytes b → IsShownLine (λ n doc x. x ≡ nothing) name bytes b
      as_shown k = record { short = k.short; text = k.text; decodes = k.decodes; doc = k.doc; builds = k.builds; shown = k.line }

      refused : IsRefusedPageLine name bytes a → IsPageAnswer bytes b → b.refused ≡ true
      refused h (inl k) = ap (λ (x : Answer). x.refused) k.line
      refused h (inr k) = absurd (refused_or_read below.lines (λ n doc x. x ≡ nothing) name bytes h.fault b h.cause (as_shown k))

  same_script : (tests : Known) (d : Dialect) (text : List ℕ) (a b : Answer) (lines : List ℕ → List ℕ → Answer) → SameScript tests d text a b lines
  same_script tests d text a b lines = record {
    whole = whole;
    reason = λ line answer. below.lines.one_script_fault text line.why answer.why line.cause answer.cause;
    read = read;
    entries = λ line answer. below.lines.one_script tests d text line.entries answer.entries line.reads answer.reads;
  }
    where
      whole : IsScriptRefused text a → IsScriptAnswer tests d text b → IsScriptAnswerRefused text b
      whole h (inl k) = k
      whole h (inr k) = absurd (below.lines.read_or_refused tests d text k.entries h.why k.reads h.cause)

      read : IsByScript tests d text lines → IsScriptAnswer tests d text b → IsScriptRead tests d text b
      read h (inl k) = absurd (below.lines.read_or_refused tests d text h.entries k.why h.reads k.cause)
      read h (inr k) = k

  pub same_reason : SameReason
  same_reason tests d text entries name a b lines = (
    same_selector d text a b,
    (λ f cause answer. below.one_expression_fault tests text f answer.why cause answer.cause, (same_page tests entries name text a b, same_script tests d text a b lines)),
  )
