-- Elements by their names.
use Rattle.std.specs.Prelude.{◌≡◌, ℕ, Bool, ◌&&◌, List, ◌++◌, filter}
use Rattle.std.specs.Str.{bytes_eq}
use Rattle.std.specs.List.{range_with_len}
use Rattle.doc_model.specs.Document.{Document, row, rows, is_element, below}
use Rattle.doc_model.specs.RowLists.{IsFront}

-- y is an element of this name
abbrev pub is_named : Document → List ℕ → ℕ → Bool
is_named doc name y = is_element doc y && bytes_eq (row doc y).name name

-- the elements of this name among the rows before b, in document order
abbrev pub named_before : Document → List ℕ → ℕ → List ℕ
named_before doc name b = filter (is_named doc name) (range_with_len 0 b)

-- the elements of this name, in document order
abbrev pub named : Document → List ℕ → List ℕ
named doc name = filter (is_named doc name) (rows doc)

-- those of them that are below x
abbrev pub named_below : Document → ℕ → List ℕ → List ℕ
named_below doc x name = filter (λ y. is_named doc name y && below doc x y) (rows doc)

-- a list was made longer by the first of these rows
abbrev pub GrowsByFront : List ℕ → List ℕ → List ℕ → Type 0
GrowsByFront old new answer = (front : List ℕ) × (new ≡ old ++ front) × IsFront front answer
