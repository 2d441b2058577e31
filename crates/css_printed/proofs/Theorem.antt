-- A printed text keeps the meaning of its selector list.
use Rattle.std.proofs.Common.{◌≡◌, sym, subst, ◌≤◌, length}
use Rattle.css_selectors.specs.declared.selector.Dialect.{Dialect}
use Rattle.css_selectors.specs.declared.selector.SelectorList.{SelectorList}
use Rattle.css_selectors.specs.WellMade.{WellMade}
use Rattle.xpath_lexer.specs.Tokens.{Text}
use Rattle.xpath_lexer.specs.Places.{most_xpath}
use Rattle.css_printed.specs.Printed.{printed}
use Rattle.css_printed.specs.PrintedLaw.{PrintedLaw}
use Rattle.css_printed.specs.Promise.{KeepsMeaning}
use Rattle.css_selectors.specs.Texts.{AreTexts}
use Rattle.css_printed.proofs.KeepsAll.{keeps_all}
use Rattle.css_printed.proofs.SpellLists.{list_spoken}

pub printed_law : PrintedLaw
printed_law d list made texts within = keeps_all d list made (list_spoken d list made texts within) within

-- from the bytes that were printed
pub keeps_meaning : (d : Dialect) (list : SelectorList) (text : Text) → WellMade list → AreTexts list → text ≡ printed d list → length text ≤ most_xpath → KeepsMeaning d list text
keeps_meaning d list text made texts e short =
    let P : Text → Type 0 = λ t. length t ≤ most_xpath → KeepsMeaning d list t in
    subst P (sym e) (printed_law d list made texts) short
