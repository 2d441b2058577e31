-- What stands within a printed text. These definitions serve no public contract.
use Rattle.std.specs.Prelude.{ℕ, Bool, true, false, List, [], ◌++◌, Option, codes}
use Rattle.css_selectors.specs.declared.selector.Dialect.{Dialect}
use Rattle.css_selectors.specs.declared.selector.Link.{Link}
use Rattle.css_selectors.specs.declared.selector.Selector.{Selector}
use Rattle.css_printed.specs.Links.{first_text, step_text}
use Rattle.css_printed.specs.Printed.{selector_text}
use Rattle.css_printed.specs.TestTexts.{Steps}

-- a selector after another
abbrev pub further_text : Dialect → Selector → List ℕ
further_text dialect s = codes " | " ++ selector_text dialect s

-- what stands before an alternative of a choice
abbrev pub or_text : Bool → List ℕ
or_text true = []
or_text false = codes " or "

-- a part's axis and element, where the part is the first of a relative or stands behind another
abbrev pub link_text : Dialect → Bool → Link → Option (List ℕ) → List ℕ
link_text dialect true l element = first_text dialect l element
link_text dialect false l element = step_text dialect l element

-- the whole part
abbrev pub step_at : Bool → Steps → List ℕ
step_at true p = p.first
step_at false p = p.further
