-- The selectors of a command, and what is promised of the XPath of each.
use Rattle.std.specs.Prelude.{◌≡◌, ◌≤◌, ℕ, List, length}
use Rattle.css_selectors.specs.declared.selector.Dialect.{Dialect}
use Rattle.css_selectors.specs.declared.selector.Dialect.TheVariants.{Html}
use Rattle.css_selectors.specs.declared.selector.SelectorList.{SelectorList}
use Rattle.css_parser.specs.Selecting.{Accepts}
use Rattle.css_printed.specs.Printed.{printed}
use Rattle.css_printed.specs.Promise.{KeepsMeaning}
use Rattle.page_records.specs.Selectors.{IsSelectorText}
use Rattle.xpath_lexer.specs.Places.{most_xpath}
use Rattle.extract_call.specs.Bulk.{bulk_script}
use Rattle.extract_call.specs.Words.{Command, css, run, bulk, clean}

-- The text is a selector of the command in this dialect: that of `css`, or of a css step of the script of `run` or `bulk`, which
-- may be one of a field, of a block or of a field of a block.
abbrev pub IsSelectorOf : Command → Dialect → List ℕ → Type 0
IsSelectorOf (css d s) e text = (e ≡ d) × (text ≡ s)
IsSelectorOf (run d s names) e text = (e ≡ d) × IsSelectorText s text
IsSelectorOf (bulk n) e text = (e ≡ Html) × IsSelectorText bulk_script text
IsSelectorOf (clean page) e text = ⊥

-- where the text is an accepted list whose printed XPath is no longer than an XPath may be, that XPath keeps the list's meaning
abbrev pub IsKept : Dialect → List ℕ → Type 0
IsKept d text = (list : SelectorList) → Accepts text list → length (printed d list) ≤ most_xpath → KeepsMeaning d list (printed d list)
