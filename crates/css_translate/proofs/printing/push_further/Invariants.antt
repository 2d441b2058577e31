use Rattle.std.proofs.Common.{◌≡◌, ◌++◌, take, string_bytes}
use Rattle.std.specs.List.{AllByRecursion, flat_map}
use Rattle.css_translate.specs.inner.Pieces.{further_text}
use Rattle.css_translate.specs.inner.Read.{IsReadSelector}
use Rattle.css_translate.proofs.printing.push_further.Given as goal

abbrev pub invariant-loop-selector : goal.invariant-loop-selector
invariant-loop-selector l = record {
  text : string_bytes l.out ≡ string_bytes l.fn.out ++ flat_map (further_text l.dialect) (take l.selector-index l.selectors);
  texts : AllByRecursion IsReadSelector (take l.selector-index l.selectors);
}
