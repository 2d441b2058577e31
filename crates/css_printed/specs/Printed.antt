-- The XPath text of a selector list, as bytes.
use Rattle.std.specs.Prelude.{ℕ, List, [], ◌∷◌, ◌++◌, flat_map, map, codes}
use Rattle.css_selectors.specs.declared.selector.Dialect.{Dialect}
use Rattle.css_selectors.specs.declared.selector.Part.{Part}
use Rattle.css_selectors.specs.declared.selector.Selector.{Selector}
use Rattle.css_selectors.specs.declared.selector.SelectorList.{SelectorList}
use Rattle.css_selectors.specs.declared.selector.Tail.{Tail}
use Rattle.css_selectors.specs.declared.selector.Tail.TheVariants as tail
use Rattle.css_printed.specs.Names.{attribute_text}
use Rattle.css_printed.specs.TestTexts.{part_steps}

-- a part behind the one before it
abbrev pub part_text : Dialect → Part → List ℕ
part_text dialect p = (part_steps dialect p).further

abbrev pub tail_text : Dialect → Tail → List ℕ
tail_text dialect tail.Element = []
tail_text dialect tail.Text = codes "/text()"
tail_text dialect (tail.Attr n) = codes "/" ++ attribute_text dialect n

abbrev pub parts_text : Dialect → List Part → List ℕ
parts_text dialect parts = flat_map (part_text dialect) parts

abbrev pub selector_text : Dialect → Selector → List ℕ
selector_text dialect s = parts_text dialect s.parts ++ tail_text dialect s.tail

-- one text after another, with ` | ` between
abbrev pub joined : List (List ℕ) → List ℕ
joined [] = []
joined (x ∷ []) = x
joined (x ∷ (y ∷ ys)) = x ++ (codes " | " ++ joined (y ∷ ys))

abbrev pub printed : Dialect → SelectorList → List ℕ
printed dialect list = joined (map (selector_text dialect) list.items)
