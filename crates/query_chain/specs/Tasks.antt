-- What a field has to do where some tests are stored: nothing, since it is refused, or some actions one after the other.
use Rattle.std.specs.Prelude.{◌≡◌, ℕ, Bool, true, false, not, is_some, List, [], ◌∷◌, All, encode_utf8_all}
use Rattle.std.specs.List.{list_any}
use Rattle.test_registry.specs.declared.kinds.TestKind.{TestKind}
use Rattle.test_registry.specs.Kinds.{HasKind}
use Rattle.test_registry.specs.Names.{Known}
use Rattle.xpath_parser.specs.declared.expression.Expr.{Expr}
use Rattle.xpath_parser.specs.Asking.{AsksOnly}
use Rattle.xpath_parser.specs.Reading.{ReadsOver}
use Rattle.query_script.specs.declared.script.Chain.{Chain}
use Rattle.query_script.specs.declared.script.Chain.TheVariants as chain
use Rattle.query_script.specs.declared.script.ChainStep.{ChainStep}
use Rattle.query_script.specs.declared.script.ChainStep.TheVariants as step
use Rattle.query_script.specs.declared.script.Field.{Field}
use Rattle.query_script.specs.declared.script.Reason.{Reason}
use Rattle.query_script.specs.declared.script.Reason.TheVariants as reason
use Rattle.query_script.specs.declared.script.Take.{Take}
use Rattle.query_chain.specs.Patterns.{pattern_of}

-- ---- what a step does

-- An expression, whose value is taken at each item; the characters of a pattern, which is searched in each item's text; or the
-- kind of a stored test and the characters of a text, which each item's text is to meet.
pub data Action : Type 0 where
  select : Expr → Action
  search : List ℕ → Action
  keep : TestKind → List ℕ → Action

abbrev pub is_pattern : List ℕ → Bool
is_pattern source = is_some (pattern_of source)

-- the step does this: its text reads as the expression where these tests are stored, its characters are that pattern, or its
-- kind and its text are these
abbrev pub IsAction : Known → ChainStep → Action → Type 0
IsAction tests (step.Query query) (select x) = ReadsOver tests (encode_utf8_all query) x
IsAction tests (step.Match pattern) (search source) = (source ≡ pattern) × (is_pattern pattern ≡ true)
IsAction tests (step.Keep kind text) (keep asked other) = (asked ≡ kind) × (other ≡ text)
IsAction tests s a = ⊥

-- each step does the action at its place
abbrev pub AreActions : Known → List ChainStep → List Action → Type 0
AreActions tests [] [] = Unit {0}
AreActions tests [] (a ∷ actions) = ⊥
AreActions tests (s ∷ steps) [] = ⊥
AreActions tests (s ∷ steps) (a ∷ actions) = IsAction tests s a × AreActions tests steps actions

-- the step searches for what is no pattern
abbrev pub is_refused : ChainStep → Bool
is_refused (step.Query query) = false
is_refused (step.Match pattern) = not (is_pattern pattern)
is_refused (step.Keep kind text) = false

-- ---- what a field has to do

-- nothing, since the field is refused, or some actions one after the other, and which texts are taken at the end
pub data Task : Type 0 where
  refuses : Reason → Task
  does : List Action → Take → Task

-- The task of a chain: its own reason, if it has one; Pattern where a step searches for what is no pattern; and else what its
-- steps do.
abbrev pub IsChainTask : Known → Chain → Task → Type 0
IsChainTask tests (chain.Refused why) (refuses w) = w ≡ why
IsChainTask tests (chain.Refused why) (does actions end) = ⊥
IsChainTask tests (chain.Steps steps taken) (refuses w) = (list_any is_refused steps ≡ true) × (w ≡ reason.Pattern)
IsChainTask tests (chain.Steps steps taken) (does actions end) = AreActions tests steps actions × (end ≡ taken)

-- the task of a field where these tests are stored
abbrev pub IsTaskOver : Known → Field → Task → Type 0
IsTaskOver tests field task = IsChainTask tests field.chain task

-- ---- what a task asks

-- each stored test that the action asks is there
abbrev pub ActionAsks : Known → Action → Type 0
ActionAsks tests (select x) = AsksOnly tests x
ActionAsks tests (search source) = Unit {0}
ActionAsks tests (keep kind other) = HasKind kind tests

-- so is each that the task asks
abbrev pub TaskAsks : Known → Task → Type 0
TaskAsks tests (refuses why) = Unit {0}
TaskAsks tests (does actions end) = All (ActionAsks tests) actions
