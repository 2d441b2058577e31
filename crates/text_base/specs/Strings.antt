-- Tests on texts as lists of characters: how they begin and end, what they contain, and their runs.
use Rattle.std.specs.Prelude.{ℕ, Bool, true, false, ◌&&◌, ◌||◌, ◌==◌, cond, List, [], ◌∷◌}
use Rattle.std.specs.List.{slice_split, onto_first}
use Rattle.std.specs.Str.{bytes_eq}

-- the list has no elements
abbrev pub is_empty : {A : Type 0} → List A → Bool
is_empty [] = true
is_empty (c ∷ x) = false

-- x begins with v
abbrev pub starts_with : List ℕ → List ℕ → Bool
starts_with x [] = true
starts_with [] (b ∷ v) = false
starts_with (a ∷ x) (b ∷ v) = (a == b) && starts_with x v

-- x ends with v: some rest of x is v
abbrev pub ends_with : List ℕ → List ℕ → Bool
ends_with [] v = bytes_eq [] v
ends_with (a ∷ x) v = bytes_eq (a ∷ x) v || ends_with x v

-- x contains v: some rest of x begins with v
abbrev pub contains : List ℕ → List ℕ → Bool
contains [] v = starts_with [] v
contains (a ∷ x) v = starts_with (a ∷ x) v || contains x v

-- v is one of the texts
abbrev pub is_among : List ℕ → List (List ℕ) → Bool
is_among v [] = false
is_among v (w ∷ ws) = bytes_eq w v || is_among v ws

-- a character before the first text
abbrev pub put : ℕ → List (List ℕ) → List (List ℕ)
put c ws = onto_first c ws

-- x cut at each character that passes the test
abbrev pub pieces : (ℕ → Bool) → List ℕ → List (List ℕ)
pieces p x = slice_split p x

abbrev pub not_empty : List (List ℕ) → List (List ℕ)
not_empty [] = []
not_empty (w ∷ ws) = cond (is_empty w) (not_empty ws) (w ∷ not_empty ws)

-- the maximal runs of x without a character that passes the test, in order
abbrev pub runs : (ℕ → Bool) → List ℕ → List (List ℕ)
runs p x = not_empty (pieces p x)
