-- What is promised of the printed text of every list that a text in UTF-8 is accepted as.
use Rattle.std.specs.Prelude.{ℕ, ◌≤◌, List, length}
use Rattle.std.specs.Str.{IsUtf8}
use Rattle.css_selectors.specs.declared.selector.Dialect.{Dialect}
use Rattle.css_selectors.specs.declared.selector.SelectorList.{SelectorList}
use Rattle.css_parser.specs.Selecting.{Accepts}
use Rattle.css_printed.specs.Printed.{printed}
use Rattle.css_printed.specs.Promise.{KeepsMeaning}
use Rattle.xpath_lexer.specs.Places.{most_xpath}

-- where it is no longer than an XPath text may be
abbrev pub AcceptedLaw : Type 0
AcceptedLaw = (dialect : Dialect) (text : List ℕ) (list : SelectorList) → IsUtf8 text → Accepts text list → length (printed dialect list) ≤ most_xpath
    → KeepsMeaning dialect list (printed dialect list)
