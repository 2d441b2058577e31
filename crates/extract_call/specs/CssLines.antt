-- The line of a selector.
use Rattle.std.specs.Prelude.{◌≡◌, ◌≤◌, ℕ, ◌⊎◌, true, false, List, ◌++◌, length, codes}
use Rattle.text_base.specs.declared.reasons.SelectorFault.{SelectorFault}
use Rattle.text_base.specs.Reasons.{selector_word}
use Rattle.css_selectors.specs.declared.selector.Dialect.{Dialect}
use Rattle.css_selectors.specs.declared.selector.SelectorList.{SelectorList}
use Rattle.css_parser.specs.Selecting.{Accepts}
use Rattle.css_printed.specs.Printed.{printed}
use Rattle.query_script.specs.Queries.{IsCssFault}
use Rattle.xpath_lexer.specs.Places.{most_xpath}
use Rattle.json_lines.specs.Lines.{css_text, reason_text}
use Rattle.extract_call.specs.Answers.{Answer}

-- The text is an accepted list whose XPath is short enough: the line has its triples and its printed text.
pub record IsListLine (d : Dialect) (text : List ℕ) (a : Answer) : Type 0 where
  pub list : SelectorList
  pub accepted : Accepts text list
  pub short : length (printed d list) ≤ most_xpath
  pub line : a ≡ record { text = css_text list.items (printed d list); refused = false }

-- the text is refused: the line has the reason
pub record IsRefusalLine (d : Dialect) (text : List ℕ) (a : Answer) : Type 0 where
  pub why : SelectorFault
  pub cause : IsCssFault d text why
  pub line : a ≡ record { text = reason_text (codes "css." ++ selector_word why); refused = true }

-- the line of a selector
abbrev pub IsCssLine : Dialect → List ℕ → Answer → Type 0
IsCssLine d text a = IsListLine d text a ⊎ IsRefusalLine d text a
