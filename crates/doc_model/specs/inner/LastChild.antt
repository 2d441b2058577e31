-- The last child of a row.
use Rattle.std.specs.Prelude.{ℕ, ◌==◌, ◌&&◌, not, List, [], ◌∷◌, Bool, if◌then◌else◌}
use Rattle.doc_model.specs.Document.{Row, is_attribute_kind, is_text_kind}

-- a child of the row, and no attribute
abbrev pub is_child : ℕ → Row → Bool
is_child parent r = (r.parent == parent) && not (is_attribute_kind r.kind)

-- whether the last child of the row is a text, attributes left aside; `before` tells it of the rows before these
abbrev pub ends_in_text : ℕ → Bool → List Row → Bool
ends_in_text parent before [] = before
ends_in_text parent before (r ∷ rs) = ends_in_text parent (if is_child parent r then is_text_kind r.kind else before) rs
