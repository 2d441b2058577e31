-- The plan of a question, where some tests are stored: what a run of it is to write.
use Rattle.std.specs.Prelude.{◌≡◌, ◌∷◌, [], Option, IfSome}
use Rattle.test_registry.specs.Names.{Known}
use Rattle.extract_call.specs.Plans.{Plan, alone, over}
use Rattle.why_call.specs.Pages.{MakesAnswers}
use Rattle.why_call.specs.Scripts.{IsScriptAnswer}
use Rattle.why_call.specs.Selectors.{IsSelectorAnswer, IsExpressionAnswer}
use Rattle.why_call.specs.Words.{Question, css, xpath, script, page}

abbrev pub IsPlan : Known → Question → Plan → Type 0
IsPlan tests (css d s) (alone a) = IsSelectorAnswer d s a
IsPlan tests (css d s) (over line names) = ⊥
IsPlan tests (xpath s) (alone a) = IsExpressionAnswer tests s a
IsPlan tests (xpath s) (over line names) = ⊥
IsPlan tests (script d s) (alone a) = IsScriptAnswer tests d s a
IsPlan tests (script d s) (over line names) = ⊥
IsPlan tests (page name) (alone a) = ⊥
IsPlan tests (page name) (over line names) = (names ≡ name ∷ []) × MakesAnswers line

-- a fact for the plan of the question, where the words have one of the forms
abbrev pub ForPlan : Known → Option Question → (Plan → Type 0) → Type 0
ForPlan tests question P = IfSome question (λ q. (plan : Plan) → IsPlan tests q plan → P plan)
