-- What holds of every text and of every list of terms.
use Rattle.std.specs.Prelude.{◌≡◌, ◌↔◌, ◌⊎◌, ℕ, suc, ◌<◌, ◌≤◌, false, List, [], ◌++◌, length, map, Some}
use Rattle.test_registry.specs.Names.{Known, taken}
use Rattle.xpath_lexer.specs.Tokens.{Text}
use Rattle.xpath_parser.specs.declared.expression.Expr.{Expr}
use Rattle.xpath_parser.specs.declared.term.Term.{Term}
use Rattle.text_base.specs.declared.reasons.XPathFault.{XPathFault}
use Rattle.xpath_parser.specs.Asking.{AsksOnly}
use Rattle.xpath_parser.specs.Faults.{IsFaultOver}
use Rattle.xpath_parser.specs.Grammar.{Operands, Reads, ReadsWhole, at, rest}
use Rattle.xpath_parser.specs.Levels.{operators_of}
use Rattle.xpath_parser.specs.Reader as reader
use Rattle.xpath_parser.specs.Reading.{ReadsAs, ReadsOver}
use Rattle.xpath_parser.specs.Terms.{node_type_names, function_names}

abbrev pub OneReading : Type 0
OneReading = (ts : List Term) (x y : Expr) → ReadsWhole ts x → ReadsWhole ts y → x ≡ y

abbrev pub OneExpression : Type 0
OneExpression = (tests : Known) (text : Text) (x y : Expr) → ReadsOver tests text x → ReadsOver tests text y → x ≡ y

-- a text that reads where no tests are stored reads as the same expression where some are
abbrev pub ReadsMore : Type 0
ReadsMore = (tests : Known) (text : Text) (x : Expr) → ReadsAs text x → ReadsOver tests text x

-- what a text reads as calls only tests that are stored
abbrev pub AsksStored : Type 0
AsksStored = (tests : Known) (text : Text) (x : Expr) → ReadsOver tests text x → AsksOnly tests x

-- the names that no stored test may have are those of the node types and of the functions
abbrev pub TakenNames : Type 0
TakenNames = taken ≡ map (λ p. p.0) node_type_names ++ map (λ p. p.0) function_names

-- with more levels than terms, reading from the left finds an expression and nothing after it exactly where the rules read it
abbrev pub FoundExactly : Type 0
FoundExactly = (levels : ℕ) (ts : List Term) (x : Expr) → length ts < levels → (reader.expr levels ts ≡ Some (x, [])) ↔ ReadsWhole ts x

-- a text is refused for one reason
abbrev pub OneFault : Type 0
OneFault = (tests : Known) (text : Text) (f g : XPathFault) → IsFaultOver tests text f → IsFaultOver tests text g → f ≡ g

pub record IsReadOver (tests : Known) (text : Text) : Type 0 where
  pub expression : Expr
  pub reads : ReadsOver tests text expression

pub record IsRefusedOver (tests : Known) (text : Text) : Type 0 where
  pub fault : XPathFault
  pub stands : IsFaultOver tests text fault

-- the same where no tests are stored
abbrev pub IsRead : Text → Type 0
IsRead text = IsReadOver [] text

abbrev pub IsRefused : Text → Type 0
IsRefused text = IsRefusedOver [] text

-- and each text reads as an expression or is refused
abbrev pub ReadOrRefused : Type 0
ReadOrRefused = (tests : Known) (text : Text) → IsReadOver tests text ⊎ IsRefusedOver tests text

-- and no text does both
abbrev pub NeverBoth : Type 0
NeverBoth = (tests : Known) (text : Text) (x : Expr) (f : XPathFault) → ReadsOver tests text x → IsFaultOver tests text f → ⊥

-- Where the first operand of a level and its other operands are read, the operators between them are all of the level's operators
-- outside brackets, in their order. A `-` is one exactly where a term stands before it that is none of `@`, `::`, `(`, `[`, `,` and
-- an operator other than `/`; it is a sign elsewhere.
abbrev pub LevelsCut : Type 0
LevelsCut = (k : ℕ) (a b : List Term) (x : Expr) (ps : Operands) → k < 8 → Reads a (at k x) → Reads b (rest k ps) → operators_of (suc k) 0 false (a ++ b) ≡ map (λ p. p.0) ps

-- and outside brackets an operand has no operator of a looser level
abbrev pub NoneLooser : Type 0
NoneLooser = (k : ℕ) (ts : List Term) (x : Expr) → k ≤ 8 → Reads ts (at k x) → (j : ℕ) → k < j → j ≤ 8 → operators_of j 0 false ts ≡ []
