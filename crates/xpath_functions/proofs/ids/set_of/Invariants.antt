use Rattle.std.proofs.Common.{◌≡◌, ℕ, List, take}
use Rattle.std.specs.List.{list_any}
use Rattle.std.specs.Str.{bytes_eq}
use Rattle.xpath_functions.specs.inner.Sets.{has_text}
use Rattle.xpath_functions.proofs.ids.set_of.Given as goal

abbrev pub invariant-loop-word : goal.invariant-loop-word
invariant-loop-word l = (q : List ℕ) → has_text l.set q ≡ list_any (λ w. bytes_eq w q) (take l.word-index l.words)
