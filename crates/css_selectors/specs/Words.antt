-- Whether a selector asks for one of the words of an attribute's value, at any depth, negated or not.
use Rattle.std.specs.Prelude.{Bool, true, false, List}
use Rattle.std.specs.List.{list_any}
use Rattle.css_selectors.specs.declared.selector.Compound.{Compound}
use Rattle.css_selectors.specs.declared.selector.Op.{Op}
use Rattle.css_selectors.specs.declared.selector.Op.TheVariants as op
use Rattle.css_selectors.specs.declared.selector.Part.{Part}
use Rattle.css_selectors.specs.declared.selector.Relative.{Relative}
use Rattle.css_selectors.specs.declared.selector.SelectorList.{SelectorList}
use Rattle.css_selectors.specs.declared.selector.Simple.{Simple}
use Rattle.css_selectors.specs.declared.selector.Test.{Test}
use Rattle.css_selectors.specs.declared.selector.Test.TheFolds.{fold-Test, fold-Compound, fold-Part, fold-Relative, fold-Simple}
use Rattle.css_selectors.specs.declared.selector.Test.TheOpen as open_

abbrev pub is_word_op : Op → Bool
is_word_op op.Word = true
is_word_op op.Exists = false
is_word_op op.Equals = false
is_word_op op.Dash = false
is_word_op op.Prefix = false
is_word_op op.Suffix = false
is_word_op op.Substring = false

abbrev pub one_asks : List Bool → Bool
one_asks list = list_any (λ b. b) list

abbrev pub test_asks_step : open_.Test-F Bool Bool Bool Bool Bool → Bool
test_asks_step (open_.Element n) = false
test_asks_step (open_.Id x) = false
test_asks_step (open_.Class x) = true
test_asks_step (open_.Attr name o v) = is_word_op o
test_asks_step (open_.Nth kind a b) = false
test_asks_step (open_.Pseudo p) = false
test_asks_step (open_.Contains x) = false
test_asks_step (open_.Lang x) = false
test_asks_step (open_.Any w list) = one_asks list
test_asks_step (open_.Has list) = one_asks list

abbrev pub compound_asks_step : open_.Compound-F Bool Bool Bool Bool Bool → Bool
compound_asks_step c = one_asks c.simples

abbrev pub part_asks_step : open_.Part-F Bool Bool Bool Bool Bool → Bool
part_asks_step p = one_asks p.simples

abbrev pub relative_asks_step : open_.Relative-F Bool Bool Bool Bool Bool → Bool
relative_asks_step r = one_asks r.parts

abbrev pub simple_asks_step : open_.Simple-F Bool Bool Bool Bool Bool → Bool
simple_asks_step x = x.test

unfoldable pub test_asks : Test → Bool
test_asks = fold-Test Bool Bool Bool Bool Bool test_asks_step compound_asks_step part_asks_step relative_asks_step simple_asks_step

unfoldable pub compound_asks : Compound → Bool
compound_asks = fold-Compound Bool Bool Bool Bool Bool test_asks_step compound_asks_step part_asks_step relative_asks_step simple_asks_step

unfoldable pub part_asks : Part → Bool
part_asks = fold-Part Bool Bool Bool Bool Bool test_asks_step compound_asks_step part_asks_step relative_asks_step simple_asks_step

unfoldable pub relative_asks : Relative → Bool
relative_asks = fold-Relative Bool Bool Bool Bool Bool test_asks_step compound_asks_step part_asks_step relative_asks_step simple_asks_step

unfoldable pub simple_asks : Simple → Bool
simple_asks = fold-Simple Bool Bool Bool Bool Bool test_asks_step compound_asks_step part_asks_step relative_asks_step simple_asks_step

-- some selector of the list has a Class or a Word test
abbrev pub asks_words : SelectorList → Bool
asks_words list = list_any (λ s. list_any part_asks s.parts) list.items
