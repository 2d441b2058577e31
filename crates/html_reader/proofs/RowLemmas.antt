-- The rows from place to place.
use Rattle.std.proofs.Common.{◌≡◌, ℕ, Bool, refl, ap}
use Rattle.html_reader.specs.Tokens.{Tag, Leaf}
use Rattle.html_reader.specs.Forest.{Forest, nothing, then_leaf, then_element}
use Rattle.html_reader.specs.Rows.{Sofar, with_leaf, grown}
use Rattle.html_reader.specs.Places.{Place, outside, within, base, place_grown, below, with_piece}
use Rattle.html_reader.specs.inner.Machine.{holding, closing}
use Rattle.html_reader.proofs.PlaceLemmas.{append, add, lone}

pub grown-append : (p : ℕ) (s : Sofar) (f g : Forest) → grown p s (append f g) ≡ grown p (grown p s f) g
grown-append p s nothing g = refl
grown-append p s (then_leaf leaf rest) g = grown-append p (with_leaf p s leaf) rest g
grown-append p s (then_element tag inside inserted rest) g = grown-append p _ rest g

-- a piece more adds its rows
pub add_grown : (made : Bool) (p : Place) (f : Forest) → place_grown made (add p f) ≡ with_piece (place_grown made p) f
add_grown made (outside piece) f = ap (below (base made).open_rows) (grown-append _ _ piece f)
add_grown made (within before tag piece) f = ap (below _) (grown-append _ _ piece f)

pub leaf_grown : (made : Bool) (p : Place) (leaf : Leaf) → place_grown made (add p (then_leaf leaf nothing)) ≡ holding (place_grown made p) leaf
leaf_grown made p leaf = add_grown made p (then_leaf leaf nothing)

pub close_grown : (made : Bool) (p : Place) (tag : Tag) (piece : Forest) (inserted : Bool) → place_grown made (add p (lone tag piece inserted)) ≡ closing (place_grown made (within p tag piece))
close_grown made p tag piece inserted = add_grown made p (lone tag piece inserted)
