-- Texts that are accepted.
use Rattle.std.specs.Prelude.{ℕ, List}
use Rattle.css_selectors.specs.declared.selector.SelectorList.{SelectorList}
use Rattle.css_parser.specs.Selecting.{Accepts}

abbrev pub IsAccepted : List ℕ → Type 0
IsAccepted text = (list : SelectorList) × Accepts text list
