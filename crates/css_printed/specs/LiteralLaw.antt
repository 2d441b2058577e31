-- What the literal of a text is as an expression. XPath 1.0, sections 3.7 and 4.2.
use Rattle.std.specs.Prelude.{◌≡◌, ℕ, ◌≤◌, List, length, encode_utf8_all}
use Rattle.doc_model.specs.Document.{Document}
use Rattle.xpath_values.specs.declared.value.Value.TheVariants.{Str}
use Rattle.xpath_parser.specs.declared.expression.Expr.{Expr}
use Rattle.xpath_parser.specs.Denote.{denote}
use Rattle.xpath_parser.specs.Functions.{Context}
use Rattle.xpath_lexer.specs.Places.{most_xpath}
use Rattle.xpath_parser.specs.Reading.{ReadsAs}
use Rattle.css_printed.specs.Literals.{literal_text}
use Rattle.css_selectors.specs.Texts.{IsText}

-- the literal of x reads as an expression whose value is x, wherever it stands
pub record StandsFor (x : List ℕ) : Type 0 where
  pub expression : Expr
  pub reads : ReadsAs (literal_text (encode_utf8_all x)) expression
  pub value : (doc : Document) (c : Context) → denote doc expression c ≡ Str x

abbrev pub LiteralLaw : Type 0
LiteralLaw = (x : List ℕ) → IsText x → length (literal_text (encode_utf8_all x)) ≤ most_xpath → StandsFor x
