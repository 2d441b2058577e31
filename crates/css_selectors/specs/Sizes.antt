-- How many parts and simples a selector has, those inside every choice counted.
use Rattle.std.specs.Prelude.{ℕ, ◌+◌, List, sum_by}
use Rattle.css_selectors.specs.declared.selector.Compound.{Compound}
use Rattle.css_selectors.specs.declared.selector.Part.{Part}
use Rattle.css_selectors.specs.declared.selector.Relative.{Relative}
use Rattle.css_selectors.specs.declared.selector.Selector.{Selector}
use Rattle.css_selectors.specs.declared.selector.Simple.{Simple}
use Rattle.css_selectors.specs.declared.selector.Test.{Test}
use Rattle.css_selectors.specs.declared.selector.Test.TheFolds.{fold-Test, fold-Compound, fold-Part, fold-Relative, fold-Simple}
use Rattle.css_selectors.specs.declared.selector.Test.TheOpen as open_

abbrev pub total : List ℕ → ℕ
total xs = sum_by (λ n. n) xs

abbrev pub test_size_step : open_.Test-F ℕ ℕ ℕ ℕ ℕ → ℕ
test_size_step (open_.Any w list) = total list
test_size_step (open_.Has list) = total list
test_size_step _ = 0

abbrev pub compound_size_step : open_.Compound-F ℕ ℕ ℕ ℕ ℕ → ℕ
compound_size_step c = total c.simples

abbrev pub part_size_step : open_.Part-F ℕ ℕ ℕ ℕ ℕ → ℕ
part_size_step p = 1 + total p.simples

abbrev pub relative_size_step : open_.Relative-F ℕ ℕ ℕ ℕ ℕ → ℕ
relative_size_step r = total r.parts

abbrev pub simple_size_step : open_.Simple-F ℕ ℕ ℕ ℕ ℕ → ℕ
simple_size_step x = 1 + x.test

unfoldable pub test_size : Test → ℕ
test_size = fold-Test ℕ ℕ ℕ ℕ ℕ test_size_step compound_size_step part_size_step relative_size_step simple_size_step

unfoldable pub compound_size : Compound → ℕ
compound_size = fold-Compound ℕ ℕ ℕ ℕ ℕ test_size_step compound_size_step part_size_step relative_size_step simple_size_step

unfoldable pub part_size : Part → ℕ
part_size = fold-Part ℕ ℕ ℕ ℕ ℕ test_size_step compound_size_step part_size_step relative_size_step simple_size_step

unfoldable pub relative_size : Relative → ℕ
relative_size = fold-Relative ℕ ℕ ℕ ℕ ℕ test_size_step compound_size_step part_size_step relative_size_step simple_size_step

unfoldable pub simple_size : Simple → ℕ
simple_size = fold-Simple ℕ ℕ ℕ ℕ ℕ test_size_step compound_size_step part_size_step relative_size_step simple_size_step

abbrev pub size_of : Selector → ℕ
size_of s = sum_by part_size s.parts
