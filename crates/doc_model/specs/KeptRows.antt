-- The rows of a tree that keeps them. The root node is not kept.
use Rattle.std.specs.Prelude.{◌≡◌, ℕ, ◌-◌, ◌<◌, List, ◌∷◌, ◌==◌, Bool, false, map, length, reverse, slice_index_or}
use Rattle.std.specs.List.{list_any}
use Rattle.doc_model.specs.Document.{Row, Document, no_row}
use Rattle.doc_model.specs.Ends.{IsEnd}
use Rattle.doc_model.specs.Growing.{Growing, growing}

-- a row, and the first row after it that is not below it
pub record Kept : Type 0 where
  pub row : Row
  pub end : ℕ

-- the root node and the rows after it
abbrev pub rows_of : List Kept → Document
rows_of rows = no_row ∷ map (λ (r : Kept). r.row) rows

-- where the rows below each row end, the root node left out
abbrev pub ends_of : List Kept → List ℕ
ends_of rows = map (λ (r : Kept). r.end) rows

abbrev pub is_open : ℕ → List ℕ → Bool
is_open i open_rows = list_any (λ x. x == i) open_rows

-- for each row but the root node and the open ones, the rows below it end there
abbrev pub AreEnds : Document → List ℕ → List ℕ → Type 0
AreEnds doc open_rows ends = (i : ℕ) → 0 < i → i < length doc → is_open i open_rows ≡ false → IsEnd doc i (slice_index_or ends (i - 1) 0)

-- what rows and open elements mean, the innermost element standing last
abbrev pub growing_of : List Kept → List ℕ → Growing
growing_of rows unclosed = growing (rows_of rows) (reverse unclosed)
