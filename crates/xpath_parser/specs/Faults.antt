-- Why a text reads as no expression.
use Rattle.std.specs.Prelude.{◌≡◌, ℕ, zero, suc, ◌<◌, ◌≤◌, false, if◌then◌else◌, List, [], ◌∷◌, length, Option, Some, None}
use Rattle.text_base.specs.declared.reasons.XPathFault.{XPathFault}
use Rattle.text_base.specs.declared.reasons.XPathFault.TheVariants as fault
use Rattle.test_registry.specs.Names.{Known}
use Rattle.xpath_lexer.specs.Tokens.{Text, Lexeme, Spells}
use Rattle.xpath_parser.specs.declared.expression.Expr.{Expr}
use Rattle.xpath_parser.specs.declared.term.Term.{Term}
use Rattle.xpath_parser.specs.declared.term.Term.TheVariants as t
use Rattle.xpath_parser.specs.Terms.{terms_over, IsShallow}
use Rattle.xpath_parser.specs.Grammar.{ReadsWhole}
use Rattle.xpath_parser.specs.Shapes.{takes, is_well_typed}
use Rattle.xpath_lexer.specs.Places.{most_xpath}

-- ---- the refusals that stand at one token

-- The commas up to the bracket that closes the one before the terms, without those in brackets further in, of which so many are open.
abbrev pub commas : ℕ → List Term → ℕ
commas d [] = 0
commas d (t.OpenRound ∷ ts) = commas (suc d) ts
commas d (t.OpenSquare ∷ ts) = commas (suc d) ts
commas zero (t.CloseRound ∷ ts) = 0
commas zero (t.CloseSquare ∷ ts) = 0
commas (suc d) (t.CloseRound ∷ ts) = commas d ts
commas (suc d) (t.CloseSquare ∷ ts) = commas d ts
commas zero (t.Comma ∷ ts) = suc (commas zero ts)
commas d (w ∷ ts) = commas d ts

abbrev pub count_after_round : List Term → ℕ
count_after_round (t.CloseRound ∷ ts) = 0
count_after_round ts = suc (commas 0 ts)

-- how many arguments a function has, by the terms after its name
abbrev pub argument_count : List Term → ℕ
argument_count (t.OpenRound ∷ ts) = count_after_round ts
argument_count _ = 0

abbrev pub fault_at : Term → List Term → Option XPathFault
fault_at t.Fraction ts = Some fault.Fraction
fault_at t.TooLarge ts = Some fault.Range
fault_at t.Div ts = Some fault.Div
fault_at t.Variable ts = Some fault.Variable
fault_at t.Prefixed ts = Some fault.Prefix
fault_at t.UnknownFunction ts = Some fault.Function
fault_at (t.Function g) ts = if takes g (argument_count ts) then None else Some fault.Arguments
fault_at t.OpenRound ts = None
fault_at t.CloseRound ts = None
fault_at t.OpenSquare ts = None
fault_at t.CloseSquare ts = None
fault_at t.Dot ts = None
fault_at t.DotDot ts = None
fault_at t.At ts = None
fault_at t.Comma ts = None
fault_at t.DoubleColon ts = None
fault_at t.Slash ts = None
fault_at t.DoubleSlash ts = None
fault_at t.Bar ts = None
fault_at t.Plus ts = None
fault_at t.Minus ts = None
fault_at t.Equal ts = None
fault_at t.Unequal ts = None
fault_at t.Less ts = None
fault_at t.LessEqual ts = None
fault_at t.Greater ts = None
fault_at t.GreaterEqual ts = None
fault_at t.Or ts = None
fault_at t.And ts = None
fault_at t.Times ts = None
fault_at t.Mod ts = None
fault_at t.AnyName ts = None
fault_at (t.Name n) ts = None
fault_at (t.Axis a) ts = None
fault_at (t.NodeType n) ts = None
fault_at (t.Literal s) ts = None
fault_at (t.Number n) ts = None
fault_at t.Unknown ts = None

abbrev pub or_later : Option XPathFault → Option XPathFault → Option XPathFault
or_later (Some f) later = Some f
or_later None later = later

-- the first in the order of the text
abbrev pub first_fault : List Term → Option XPathFault
first_fault [] = None
first_fault (w ∷ ts) = or_later (fault_at w ts) (first_fault ts)

-- ---- the refusals, in their order

-- The tokens spell the text, which is not too long, and not too many brackets are open.
pub record IsFit (text : Text) (ws : List Lexeme) : Type 0 where
  pub short : length text ≤ most_xpath
  pub spelled : Spells text ws
  pub shallow : IsShallow ws

-- why the text reads as no expression where these tests are stored
pub data IsFaultOver (tests : Known) (text : Text) : XPathFault → Type 0 where
  too_long : most_xpath < length text → IsFaultOver tests text fault.Long
  unspelled : length text ≤ most_xpath → ((ws : List Lexeme) → Spells text ws → ⊥) → IsFaultOver tests text fault.Text
  too_deep : {ws : List Lexeme} → length text ≤ most_xpath → Spells text ws → (IsShallow ws → ⊥) → IsFaultOver tests text fault.Deep
  unread : {ws : List Lexeme} → IsFit text ws → ((x : Expr) → ReadsWhole (terms_over tests ws) x → ⊥) → IsFaultOver tests text fault.Syntax
  at_token : {ws : List Lexeme} {x : Expr} {f : XPathFault} → IsFit text ws → ReadsWhole (terms_over tests ws) x → first_fault (terms_over tests ws) ≡ Some f → IsFaultOver tests text f
  wrong_type : {ws : List Lexeme} {x : Expr} → IsFit text ws → ReadsWhole (terms_over tests ws) x → first_fault (terms_over tests ws) ≡ None → is_well_typed x ≡ false → IsFaultOver tests text fault.WrongType

-- why it reads as no expression of XPath 1.0 alone
abbrev pub IsXPathFault : Text → XPathFault → Type 0
IsXPathFault text f = IsFaultOver [] text f
