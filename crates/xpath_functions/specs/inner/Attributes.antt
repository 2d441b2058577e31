-- The value of an attribute that there may be.
use Rattle.std.specs.Prelude.{ℕ, Bool, false, List, Option, Some, None}
use Rattle.std.specs.Str.{bytes_eq}
use Rattle.doc_model.specs.Document.{Document, row}

-- whether the attribute has that value, where there is one
abbrev pub is_value : Document → Option ℕ → List ℕ → Bool
is_value doc None q = false
is_value doc (Some z) q = bytes_eq (row doc z).text q
