-- The names and values of a selector list as texts, at every depth: each is a list of Unicode scalar values, as every text of
-- a program is.
use Rattle.std.specs.Prelude.{◌≡◌, ℕ, Bool, true, ◌&&◌, List, Option, Some, None}
use Rattle.std.specs.List.{list_all}
use lib.Utf8.{scalars}
use Rattle.css_selectors.specs.declared.selector.Compound.{Compound}
use Rattle.css_selectors.specs.declared.selector.Part.{Part}
use Rattle.css_selectors.specs.declared.selector.Relative.{Relative}
use Rattle.css_selectors.specs.declared.selector.Selector.{Selector}
use Rattle.css_selectors.specs.declared.selector.SelectorList.{SelectorList}
use Rattle.css_selectors.specs.declared.selector.Simple.{Simple}
use Rattle.css_selectors.specs.declared.selector.Tail.{Tail}
use Rattle.css_selectors.specs.declared.selector.Tail.TheVariants as tail
use Rattle.css_selectors.specs.declared.selector.Test.{Test}
use Rattle.css_selectors.specs.declared.selector.Test.TheFolds.{fold-Test, fold-Compound, fold-Part, fold-Relative, fold-Simple}
use Rattle.css_selectors.specs.declared.selector.Test.TheOpen as open_

abbrev pub IsText : List ℕ → Type 0
IsText x = scalars x ≡ true

abbrev pub element_text : Option (List ℕ) → Bool
element_text None = true
element_text (Some n) = scalars n

abbrev pub all_texts : List Bool → Bool
all_texts list = list_all (λ b. b) list

abbrev pub test_texts_step : open_.Test-F Bool Bool Bool Bool Bool → Bool
test_texts_step (open_.Element n) = element_text n
test_texts_step (open_.Id x) = scalars x
test_texts_step (open_.Class x) = scalars x
test_texts_step (open_.Attr name o v) = scalars name && scalars v
test_texts_step (open_.Nth kind a b) = true
test_texts_step (open_.Pseudo p) = true
test_texts_step (open_.Contains x) = scalars x
test_texts_step (open_.Lang x) = scalars x
test_texts_step (open_.Any w list) = all_texts list
test_texts_step (open_.Has list) = all_texts list

abbrev pub compound_texts_step : open_.Compound-F Bool Bool Bool Bool Bool → Bool
compound_texts_step c = element_text c.element && all_texts c.simples

abbrev pub part_texts_step : open_.Part-F Bool Bool Bool Bool Bool → Bool
part_texts_step p = element_text p.element && all_texts p.simples

abbrev pub relative_texts_step : open_.Relative-F Bool Bool Bool Bool Bool → Bool
relative_texts_step r = all_texts r.parts

abbrev pub simple_texts_step : open_.Simple-F Bool Bool Bool Bool Bool → Bool
simple_texts_step x = x.test

unfoldable pub test_texts : Test → Bool
test_texts = fold-Test Bool Bool Bool Bool Bool test_texts_step compound_texts_step part_texts_step relative_texts_step simple_texts_step

unfoldable pub compound_texts : Compound → Bool
compound_texts = fold-Compound Bool Bool Bool Bool Bool test_texts_step compound_texts_step part_texts_step relative_texts_step simple_texts_step

unfoldable pub part_texts : Part → Bool
part_texts = fold-Part Bool Bool Bool Bool Bool test_texts_step compound_texts_step part_texts_step relative_texts_step simple_texts_step

unfoldable pub relative_texts : Relative → Bool
relative_texts = fold-Relative Bool Bool Bool Bool Bool test_texts_step compound_texts_step part_texts_step relative_texts_step simple_texts_step

unfoldable pub simple_texts : Simple → Bool
simple_texts = fold-Simple Bool Bool Bool Bool Bool test_texts_step compound_texts_step part_texts_step relative_texts_step simple_texts_step

abbrev pub tail_text : Tail → Bool
tail_text tail.Element = true
tail_text tail.Text = true
tail_text (tail.Attr n) = scalars n

abbrev pub selector_texts : Selector → Bool
selector_texts s = list_all part_texts s.parts && tail_text s.tail

abbrev pub AreTexts : SelectorList → Type 0
AreTexts list = list_all selector_texts list.items ≡ true
