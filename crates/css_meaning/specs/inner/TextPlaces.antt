-- The texts below a row, cut where a text row ends.
use Rattle.std.specs.Prelude.{ℕ, ◌-◌, Bool, false, ◌||◌, List, [], ◌∷◌, ◌++◌, flat_map, filter, if◌then◌else◌, encode_utf8_all}
use Rattle.std.specs.List.{range_with_len}
use Rattle.text_base.specs.Strings.{starts_with}
use Rattle.doc_model.specs.Document.{Document, row, is_text}

-- the text of the row, if it is a text row
abbrev pub text_at : Document → ℕ → List ℕ
text_at doc y = if is_text doc y then (row doc y).text else []

-- the texts of the text rows from one row on and before another, joined
abbrev pub texts_from : Document → ℕ → ℕ → List ℕ
texts_from doc from to = flat_map (λ y. (row doc y).text) (filter (is_text doc) (range_with_len from (to - from)))

-- these as bytes
abbrev pub bytes_from : Document → ℕ → ℕ → List ℕ
bytes_from doc from to = encode_utf8_all (texts_from doc from to)

-- v begins in the piece, and goes on over the rest where the piece ends first
abbrev pub begins_in : List ℕ → List ℕ → List ℕ → Bool
begins_in [] rest v = false
begins_in (b ∷ piece) rest v = starts_with ((b ∷ piece) ++ rest) v || begins_in piece rest v
