-- What is promised of a printed text.
use Rattle.std.specs.Prelude.{◌≡◌, ℕ, ◌<◌, true, ◌&&◌, List, length, filter}
use Rattle.std.specs.List.{list_any}
use Rattle.doc_model.specs.Document.{Document, IsDocument, rows}
use Rattle.css_selectors.specs.declared.selector.Dialect.{Dialect}
use Rattle.css_selectors.specs.declared.selector.SelectorList.{SelectorList}
use Rattle.css_selectors.specs.Words.{asks_words}
use Rattle.css_meaning.specs.Limits.{Countable, NoFormFeed}
use Rattle.css_meaning.specs.Matching.{answers, matches_by, gives}
use Rattle.xpath_lexer.specs.Tokens.{Text}
use Rattle.xpath_values.specs.declared.value.Shape.TheVariants as shape
use Rattle.xpath_values.specs.declared.value.Value.TheVariants.{Nodes}
use Rattle.xpath_parser.specs.declared.expression.Expr.{Expr}
use Rattle.xpath_parser.specs.Reading.{ReadsAs}
use Rattle.xpath_parser.specs.Shapes.{shape_of}
use Rattle.xpath_parser.specs.Functions.{Context}
use Rattle.xpath_parser.specs.Denote.{denote}

-- the row alone
abbrev pub alone : ℕ → Context
alone c = record { row = c; position = 1; size = 1 }

-- The documents of which the promise speaks. Form feeds are looked at only where the list asks for one of the words of a value.
pub record IsWithin (list : SelectorList) (doc : Document) : Type 0 where
  pub document : IsDocument doc
  pub countable : Countable doc
  pub no_form_feed : asks_words list ≡ true → NoFormFeed doc

-- all rows that some selector of the list gives for an element that it matches, ascending, each once
abbrev pub matched : Document → Dialect → SelectorList → List ℕ
matched doc dialect list =
    filter (λ r. list_any (λ s. list_any (λ e. matches_by doc dialect s.parts e && gives doc dialect s.tail e r) (rows doc)) list.items) (rows doc)

-- The text reads as one expression, which gives nodes: from each row those that the list answers from there, and from the
-- root node those of the elements that the list matches.
pub record KeepsMeaning (dialect : Dialect) (list : SelectorList) (text : Text) : Type 0 where
  pub expression : Expr
  pub reads : ReadsAs text expression
  pub one_expression : (x : Expr) → ReadsAs text x → x ≡ expression
  pub shape : shape_of expression ≡ shape.Nodes
  pub answers_from : (doc : Document) → IsWithin list doc → (c : ℕ) → c < length doc → denote doc expression (alone c) ≡ Nodes (answers doc dialect list c)
  pub matches_from_root : (doc : Document) → IsWithin list doc → denote doc expression (alone 0) ≡ Nodes (matched doc dialect list)
