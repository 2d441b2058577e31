use Rattle.std.proofs.Common.{◌≡◌, ℕ, List, take}
use Rattle.std.specs.List.{list_any}
use Rattle.std.specs.Str.{bytes_eq}
use Rattle.xpath_functions.specs.inner.Sets.{has_text}
use Rattle.xpath_functions.specs.inner.Texts.{chars_of}
use Rattle.xpath_functions.proofs.comparisons.set_of.Given as goal

abbrev pub invariant-loop-text : goal.invariant-loop-text
invariant-loop-text l = (q : List ℕ) → has_text l.set q ≡ list_any (λ w. bytes_eq (chars_of w) q) (take l.text-index l.texts)
