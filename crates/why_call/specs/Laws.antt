-- Laws of the definitions.
use Rattle.std.specs.Prelude.{◌≡◌, ℕ, ◌↔◌, ◌⊎◌, Some, true, List}
use Rattle.text_base.specs.declared.reasons.XPathFault.{XPathFault}
use Rattle.test_registry.specs.Names.{Known}
use Rattle.css_selectors.specs.declared.selector.Dialect.{Dialect}
use Rattle.page_records.specs.declared.script.Entry.{Entry}
use Rattle.xpath_parser.specs.Faults.{IsFaultOver}
use Rattle.extract_call.specs.Answers.{Answer}
use Rattle.extract_call.specs.CssLines.{IsCssLine, IsRefusalLine}
use Rattle.extract_call.specs.PageLines.{IsRefusedPageLine, IsShownLine, IsValuesLine, IsMarkupLine}
use Rattle.extract_call.specs.Plans.{Plan, IsScriptRefused, IsByScript}
use Rattle.why_call.specs.Answers.{nothing}
use Rattle.why_call.specs.Pages.{IsPageAnswer, IsPageAnswerRefused}
use Rattle.why_call.specs.Plans.{IsPlan}
use Rattle.why_call.specs.Scripts.{IsScriptAnswer, IsScriptAnswerRefused, IsScriptRead}
use Rattle.why_call.specs.Selectors.{IsSelectorAnswer, IsSelectorRefused, IsExpressionRefused}
use Rattle.why_call.specs.Words.{Question, IsWords, read}

-- The words have the form of a question exactly where they are that question's words.
abbrev pub WordsLaw : Type 0
WordsLaw = (words : List (List ℕ)) (question : Question) → (read words ≡ Some question) ↔ IsWords question words

-- Each question has one plan at most.
abbrev pub OnePlan : Type 0
OnePlan = (tests : Known) (question : Question) (plan other : Plan) → IsPlan tests question plan → IsPlan tests question other → plan ≡ other

-- ---- The reason that `why` gives is the one in the line that `extract` gives.

-- Of a selector: both refuse it or neither does, and for the same reason.
pub record SameSelector (d : Dialect) (text : List ℕ) (a b : Answer) : Type 0 where
  pub truth : IsCssLine d text a → IsSelectorAnswer d text b → a.refused ≡ b.refused
  pub reason : (line : IsRefusalLine d text a) (answer : IsSelectorRefused d text b) → line.why ≡ answer.why

-- Of an expression: the reason for which a field is refused that asks it.
abbrev pub SameExpression : Known → List ℕ → Answer → Type 0
SameExpression tests text b = (f : XPathFault) → IsFaultOver tests text f → (answer : IsExpressionRefused tests text b) → f ≡ answer.why

-- Of a page: both refuse it or neither does, for the same reason and at the same place, whether a script is run on it or its markup is asked.
pub record SamePage (tests : Known) (entries : List Entry) (name bytes : List ℕ) (a b : Answer) : Type 0 where
  pub refused : IsRefusedPageLine name bytes a → IsPageAnswer bytes b → b.refused ≡ true
  pub reason : (line : IsRefusedPageLine name bytes a) (answer : IsPageAnswerRefused bytes b) → line.fault ≡ answer.fault
  pub valued : IsShownLine (IsValuesLine tests entries) name bytes a → IsPageAnswer bytes b → b ≡ nothing
  pub marked : IsShownLine IsMarkupLine name bytes a → IsPageAnswer bytes b → b ≡ nothing

-- Of a script: both refuse it as a whole or neither does, for the same reason, and else both have the same fields and blocks.
pub record SameScript (tests : Known) (d : Dialect) (script : List ℕ) (a b : Answer) (lines : List ℕ → List ℕ → Answer) : Type 0 where
  pub whole : IsScriptRefused script a → IsScriptAnswer tests d script b → IsScriptAnswerRefused script b
  pub reason : (line : IsScriptRefused script a) (answer : IsScriptAnswerRefused script b) → line.why ≡ answer.why
  pub read : IsByScript tests d script lines → IsScriptAnswer tests d script b → IsScriptRead tests d script b
  pub entries : (line : IsByScript tests d script lines) (answer : IsScriptRead tests d script b) → line.entries ≡ answer.entries

abbrev pub SameReason : Type 0
SameReason = (tests : Known) (d : Dialect) (text : List ℕ) (entries : List Entry) (name : List ℕ) (a b : Answer) (lines : List ℕ → List ℕ → Answer)
    → SameSelector d text a b × (SameExpression tests text b × (SamePage tests entries name text a b × SameScript tests d text a b lines))
