-- Sets of texts.
use Rattle.std.specs.Prelude.{◌≡◌, ℕ, Bool, ◌&&◌, not, List, encode_utf8_all}
use Rattle.std.specs.Ordering.{nat_cmp}
use Rattle.std.specs.Cmp.Lexicographic.{slice_cmp}
use Rattle.std.specs.List.{list_any}
use Rattle.std.specs.Str.{bytes_eq}
use Rattle.std.specs.BTreeSet.{BTreeSet, contains_by}
use denote.Ref.{Bor}

-- whether the set has the text with these characters
abbrev pub has_text : BTreeSet (Bor (List ℕ)) → List ℕ → Bool
has_text s q = contains_by (λ k. slice_cmp nat_cmp (encode_utf8_all q) k.now) s

-- the set has those of the words that did not come earlier
abbrev pub AreLeft : BTreeSet (Bor (List ℕ)) → List (List ℕ) → (List ℕ → Bool) → Type 0
AreLeft s ws earlier = (q : List ℕ) → has_text s q ≡ (list_any (λ w. bytes_eq w q) ws && not (earlier q))
