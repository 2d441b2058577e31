-- Rows whose parents are rows.
use Rattle.std.specs.Prelude.{ℕ, ◌<◌, List, [], ◌∷◌, length}
use Rattle.doc_model.specs.Document.{Row}

-- rows whose parents are smaller than m
abbrev pub Small : ℕ → List Row → Type 0
Small m [] = Unit {0}
Small m (r ∷ rs) = (r.parent < m) × Small m rs

-- the parents of all rows are rows
abbrev pub Within : List Row → Type 0
Within rows = Small (length rows) rows
