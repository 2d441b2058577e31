-- What is promised of the printed text of every selector list.
use Rattle.std.specs.Prelude.{◌≤◌, length}
use Rattle.css_selectors.specs.declared.selector.Dialect.{Dialect}
use Rattle.css_selectors.specs.declared.selector.SelectorList.{SelectorList}
use Rattle.css_selectors.specs.WellMade.{WellMade}
use Rattle.xpath_lexer.specs.Places.{most_xpath}
use Rattle.css_printed.specs.Printed.{printed}
use Rattle.css_printed.specs.Promise.{KeepsMeaning}
use Rattle.css_selectors.specs.Texts.{AreTexts}

-- of a well made list, whose names and values are texts, where the printed text is no longer than an XPath text may be
abbrev pub PrintedLaw : Type 0
PrintedLaw = (dialect : Dialect) (list : SelectorList) → WellMade list → AreTexts list → length (printed dialect list) ≤ most_xpath
    → KeepsMeaning dialect list (printed dialect list)
