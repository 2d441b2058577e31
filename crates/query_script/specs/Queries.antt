-- What the steps of a field are kept as, and which of them is refused.
use Rattle.std.specs.Prelude.{◌≡◌, ◌⊎◌, ℕ, ◌<◌, ◌≤◌, Bool, true, false, List, [], ◌∷◌, length, Some, None, encode_utf8_all}
use Rattle.std.specs.Str.{chars}
use Rattle.text_base.specs.Names.{named_in}
use Rattle.text_base.specs.declared.reasons.SelectorFault.{SelectorFault}
use Rattle.text_base.specs.declared.reasons.SelectorFault.TheVariants as fault
use Rattle.test_registry.specs.declared.kinds.TestKind.{TestKind}
use Rattle.test_registry.specs.Names.{Known}
use Rattle.css_selectors.specs.declared.selector.Dialect.{Dialect}
use Rattle.css_selectors.specs.declared.selector.SelectorList.{SelectorList}
use Rattle.css_parser.specs.Selecting.{Accepts, IsFault}
use Rattle.css_printed.specs.Printed.{printed}
use Rattle.xpath_lexer.specs.Places.{most_xpath}
use Rattle.xpath_parser.specs.declared.expression.Expr.{Expr}
use Rattle.xpath_parser.specs.Faults.{IsFaultOver}
use Rattle.xpath_parser.specs.Reading.{ReadsOver}
use Rattle.xpath_parser.specs.Shapes.{is_nodes, shape_of}
use Rattle.query_script.specs.declared.queries.Found.{Found}
use Rattle.query_script.specs.declared.queries.Found.TheVariants as found
use Rattle.query_script.specs.declared.script.ChainStep.{ChainStep}
use Rattle.query_script.specs.declared.script.ChainStep.TheVariants as step
use Rattle.query_script.specs.declared.script.Reason.{Reason}
use Rattle.query_script.specs.declared.script.Reason.TheVariants as reason
use Rattle.query_script.specs.declared.steps.RawStep.{RawStep}
use Rattle.query_script.specs.declared.steps.RawStep.TheVariants as raw
use Rattle.query_script.specs.Ordered.{IsInOrder, IsStepStored}

-- ---- a step that is kept

-- The text is a list of selectors whose XPath is not too long. That XPath is kept, and nodes come of it.
pub record IsCssStep (d : Dialect) (text : List ℕ) (kept : ChainStep) (nodes : Bool) : Type 0 where
  pub list : SelectorList
  pub accepted : Accepts (encode_utf8_all text) list
  pub short : length (printed d list) ≤ most_xpath
  pub is : kept ≡ step.Query (chars (printed d list))
  pub shape : nodes ≡ true

-- The text reads as an expression where these tests are stored. The text is kept, and nodes come of it where that is the
-- expression's shape.
pub record IsXPathStep (tests : Known) (text : List ℕ) (kept : ChainStep) (nodes : Bool) : Type 0 where
  pub expression : Expr
  pub reads : ReadsOver tests (encode_utf8_all text) expression
  pub is : kept ≡ step.Query text
  pub shape : nodes ≡ is_nodes (shape_of expression)

-- The text is kept, whatever it is, and strings come of it.
pub record IsPatternStep (text : List ℕ) (kept : ChainStep) (nodes : Bool) : Type 0 where
  pub is : kept ≡ step.Match text
  pub shape : nodes ≡ false

-- The name is that of a stored test, whose kind is kept with the text. What comes of it is what comes to it, nodes or not.
pub record IsKeepStep (tests : Known) (before : Bool) (name text : List ℕ) (kept : ChainStep) (nodes : Bool) : Type 0 where
  pub kind : TestKind
  pub stored : named_in tests (encode_utf8_all name) ≡ Some kind
  pub is : kept ≡ step.Keep kind text
  pub shape : nodes ≡ before

-- A step is kept as such, where nodes come to it or not, and nodes come of it or not. A query takes nodes alone, a pattern
-- and a test the texts of anything.
abbrev pub IsKept : Known → Dialect → Bool → RawStep → ChainStep → Bool → Type 0
IsKept tests d nodes (raw.Css text) kept after = (nodes ≡ true) × IsCssStep d text kept after
IsKept tests d nodes (raw.XPath text) kept after = (nodes ≡ true) × IsXPathStep tests text kept after
IsKept tests d nodes (raw.Re text) kept after = IsPatternStep text kept after
IsKept tests d nodes (raw.Keep name text) kept after = IsKeepStep tests nodes name text kept after

-- all steps are kept, in their order, where nodes come to the first or not
abbrev pub AreKept : Known → Dialect → Bool → List RawStep → List ChainStep → Type 0
AreKept tests d nodes [] [] = Unit {0}
AreKept tests d nodes [] (s ∷ kept) = ⊥
AreKept tests d nodes (r ∷ steps) [] = ⊥
AreKept tests d nodes (r ∷ steps) (s ∷ kept) = (after : Bool) × (IsKept tests d nodes r s after × AreKept tests d after steps kept)

-- ---- a step that is refused

-- the text, as bytes, is a list of selectors whose XPath is too long
pub record IsXPathLong (d : Dialect) (text : List ℕ) : Type 0 where
  pub list : SelectorList
  pub accepted : Accepts text list
  pub long : most_xpath < length (printed d list)

-- why a selector, as bytes, is refused: it is no list of selectors, or the XPath of its list is too long
abbrev pub IsCssFault : Dialect → List ℕ → SelectorFault → Type 0
IsCssFault d text fault.XPathLong = IsXPathLong d text
IsCssFault d text f = IsFault text f

abbrev pub IsCssRefused : Dialect → List ℕ → Reason → Type 0
IsCssRefused d text (reason.Css f) = IsCssFault d (encode_utf8_all text) f
IsCssRefused d text _ = ⊥

abbrev pub IsXPathRefused : Known → List ℕ → Reason → Type 0
IsXPathRefused tests text (reason.XPath f) = IsFaultOver tests (encode_utf8_all text) f
IsXPathRefused tests text _ = ⊥

-- a query on strings is out of order, else its text is looked at
abbrev pub IsQueryRefused : Bool → (Reason → Type 0) → Reason → Type 0
IsQueryRefused true refused why = refused why
IsQueryRefused false refused why = why ≡ reason.Order

-- no test of that name is stored
abbrev pub IsTestRefused : Known → List ℕ → Reason → Type 0
IsTestRefused tests name why = (why ≡ reason.Test) × (named_in tests (encode_utf8_all name) ≡ None)

-- Why a step is refused, where nodes come to it or not. A pattern is not refused here.
abbrev pub IsRefused : Known → Dialect → Bool → RawStep → Reason → Type 0
IsRefused tests d nodes (raw.Css text) why = IsQueryRefused nodes (IsCssRefused d text) why
IsRefused tests d nodes (raw.XPath text) why = IsQueryRefused nodes (IsXPathRefused tests text) why
IsRefused tests d nodes (raw.Re text) why = ⊥
IsRefused tests d nodes (raw.Keep name text) why = IsTestRefused tests name why

-- the first step from left to right that is refused is refused for this reason
abbrev pub IsFirstRefusal : Known → Dialect → Bool → List RawStep → Reason → Type 0
IsFirstRefusal tests d nodes [] why = ⊥
IsFirstRefusal tests d nodes (r ∷ steps) why =
    IsRefused tests d nodes r why ⊎ ((kept : ChainStep) × ((after : Bool) × (IsKept tests d nodes r kept after × IsFirstRefusal tests d after steps why)))

-- ---- what is found of a step

-- it is kept as such, where nodes come of it or not, or it is refused
abbrev pub IsFound : Known → Dialect → Bool → RawStep → Found → Type 0
IsFound tests d nodes r (found.Kept kept after) = IsKept tests d nodes r kept after
IsFound tests d nodes r (found.Refused why) = IsRefused tests d nodes r why

-- where it is kept, it may stand there, and so may what follows
abbrev pub IsFoundInOrder : Known → Bool → Found → Type 0
IsFoundInOrder tests nodes (found.Kept kept after) = IsInOrder tests nodes kept after
IsFoundInOrder tests nodes (found.Refused why) = Unit {0}

-- where it is kept, and keeps items by a test, a test of that kind is stored
abbrev pub IsFoundStored : Known → Found → Type 0
IsFoundStored tests (found.Kept kept after) = IsStepStored tests kept
IsFoundStored tests (found.Refused why) = Unit {0}
