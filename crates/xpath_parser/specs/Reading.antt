-- What an XPath text reads as.
use Rattle.std.specs.Prelude.{◌≡◌, ◌≤◌, true, false, List, [], length}
use Rattle.std.specs.List.{list_any}
use Rattle.test_registry.specs.Names.{Known}
use Rattle.xpath_lexer.specs.Places.{most_xpath}
use Rattle.xpath_lexer.specs.Tokens.{Text, Lexeme, Spells}
use Rattle.xpath_parser.specs.declared.expression.Expr.{Expr}
use Rattle.xpath_parser.specs.Terms.{terms_over, is_refused, IsShallow}
use Rattle.xpath_parser.specs.Grammar.{ReadsWhole}
use Rattle.xpath_parser.specs.Shapes.{is_well_typed}

-- The text reads as the expression where these tests are stored, and is refused for no reason: it is not too long, tokens spell it, not too many brackets are
-- open, the grammar reads its terms, none of them is refused, and the expression is well typed.
pub record ReadsOver (tests : Known) (text : Text) (x : Expr) : Type 0 where
  pub short : length text ≤ most_xpath
  pub lexemes : List Lexeme
  pub spelled : Spells text lexemes
  pub shallow : IsShallow lexemes
  pub reads : ReadsWhole (terms_over tests lexemes) x
  pub accepted : list_any is_refused (terms_over tests lexemes) ≡ false
  pub typed : is_well_typed x ≡ true

-- the text reads as the expression of XPath 1.0 alone
abbrev pub ReadsAs : Text → Expr → Type 0
ReadsAs text x = ReadsOver [] text x

-- some text reads as the expression, where some tests are stored
pub record IsReadable (x : Expr) : Type 0 where
  pub tests : Known
  pub text : Text
  pub reads : ReadsOver tests text x
