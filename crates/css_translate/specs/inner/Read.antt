-- The names and values of a selector as texts, one after another. These definitions serve no public contract.
use Rattle.std.specs.Prelude.{◌≡◌, true}
use Rattle.css_selectors.specs.declared.selector.Compound.{Compound}
use Rattle.css_selectors.specs.declared.selector.Part.{Part}
use Rattle.css_selectors.specs.declared.selector.Relative.{Relative}
use Rattle.css_selectors.specs.declared.selector.Selector.{Selector}
use Rattle.css_selectors.specs.declared.selector.Simple.{Simple}
use Rattle.css_selectors.specs.Texts.{compound_texts, part_texts, relative_texts, simple_texts, selector_texts}

abbrev pub IsReadSimple : Simple → Type 0
IsReadSimple x = simple_texts x ≡ true

abbrev pub IsReadCompound : Compound → Type 0
IsReadCompound c = compound_texts c ≡ true

abbrev pub IsReadPart : Part → Type 0
IsReadPart p = part_texts p ≡ true

abbrev pub IsReadRelative : Relative → Type 0
IsReadRelative r = relative_texts r ≡ true

abbrev pub IsReadSelector : Selector → Type 0
IsReadSelector s = selector_texts s ≡ true
