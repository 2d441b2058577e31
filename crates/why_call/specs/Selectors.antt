-- What is written about a selector, and about an XPath expression.
use Rattle.std.specs.Prelude.{◌≡◌, ◌≤◌, ℕ, ◌⊎◌, List, length, Option, None}
use Rattle.text_base.specs.declared.reasons.SelectorFault.{SelectorFault}
use Rattle.text_base.specs.declared.reasons.SelectorFault.TheVariants as fault
use Rattle.text_base.specs.declared.reasons.XPathFault.{XPathFault}
use Rattle.test_registry.specs.Names.{Known}
use Rattle.css_selectors.specs.declared.selector.Dialect.{Dialect}
use Rattle.css_selectors.specs.declared.selector.SelectorList.{SelectorList}
use Rattle.css_parser.specs.Selecting.{Accepts}
use Rattle.css_printed.specs.Printed.{printed}
use Rattle.query_script.specs.Queries.{IsCssFault}
use Rattle.xpath_lexer.specs.Places.{most_xpath}
use Rattle.xpath_parser.specs.declared.expression.Expr.{Expr}
use Rattle.xpath_parser.specs.Faults.{IsFaultOver}
use Rattle.xpath_parser.specs.Reading.{ReadsOver}
use Rattle.extract_call.specs.Answers.{Answer}
use Rattle.refusal_places.specs.SelectorPlaces.{IsSelectorPlace}
use Rattle.refusal_places.specs.XPathPlaces.{IsXPathPlace}
use Rattle.refusal_texts.specs.declared.refusal.Refusal.TheVariants as refusal
use Rattle.why_call.specs.Answers.{nothing, refused_at, IsTold}

-- ---- a selector

-- the place that is told of a refused selector: none where its XPath is too long, since no part of the selector is wrong
abbrev pub IsSelectorTold : SelectorFault → List ℕ → Option ℕ → Type 0
IsSelectorTold fault.XPathLong text place = place ≡ None
IsSelectorTold f text place = IsTold (IsSelectorPlace text) text place

-- it is an accepted list whose XPath is short enough
pub record IsSelectorKept (d : Dialect) (text : List ℕ) (a : Answer) : Type 0 where
  pub list : SelectorList
  pub accepted : Accepts text list
  pub short : length (printed d list) ≤ most_xpath
  pub line : a ≡ nothing

-- it is refused
pub record IsSelectorRefused (d : Dialect) (text : List ℕ) (a : Answer) : Type 0 where
  pub why : SelectorFault
  pub cause : IsCssFault d text why
  pub place : Option ℕ
  pub told : IsSelectorTold why text place
  pub line : a ≡ refused_at (refusal.Css why) text place

abbrev pub IsSelectorAnswer : Dialect → List ℕ → Answer → Type 0
IsSelectorAnswer d text a = IsSelectorKept d text a ⊎ IsSelectorRefused d text a

-- ---- an expression, where some tests are stored

-- it reads as an expression
pub record IsExpressionKept (tests : Known) (text : List ℕ) (a : Answer) : Type 0 where
  pub expression : Expr
  pub reads : ReadsOver tests text expression
  pub line : a ≡ nothing

-- it is refused
pub record IsExpressionRefused (tests : Known) (text : List ℕ) (a : Answer) : Type 0 where
  pub why : XPathFault
  pub cause : IsFaultOver tests text why
  pub place : Option ℕ
  pub told : IsTold (IsXPathPlace tests text) text place
  pub line : a ≡ refused_at (refusal.XPath why) text place

abbrev pub IsExpressionAnswer : Known → List ℕ → Answer → Type 0
IsExpressionAnswer tests text a = IsExpressionKept tests text a ⊎ IsExpressionRefused tests text a
