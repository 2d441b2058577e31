-- What holds of every text.
use Rattle.std.specs.Prelude.{◌≡◌, ℕ, List}
use Rattle.test_registry.specs.Names.{Known}
use Rattle.refusal_places.specs.SelectorPlaces.{IsSelectorPlace}
use Rattle.refusal_places.specs.XPathPlaces.{IsXPathPlace}

-- a text is refused at one place at most
abbrev pub OneSelectorPlace : Type 0
OneSelectorPlace = (text : List ℕ) (place other : ℕ) → IsSelectorPlace text place → IsSelectorPlace text other → place ≡ other

abbrev pub OneXPathPlace : Type 0
OneXPathPlace = (tests : Known) (text : List ℕ) (place other : ℕ) → IsXPathPlace tests text place → IsXPathPlace tests text other → place ≡ other
