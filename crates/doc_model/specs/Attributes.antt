-- The attributes of an element by their names, and its `id`.
use Rattle.std.specs.Prelude.{ℕ, Bool, ◌&&◌, List, codes}
use Rattle.std.specs.List.{list_any}
use Rattle.std.specs.Str.{bytes_eq}
use Rattle.doc_model.specs.Document.{Document, row, rows, is_element, is_attribute, is_parent}

-- r is the attribute of e with this name, of which a document has at most one
abbrev pub is_attribute_of : Document → ℕ → List ℕ → ℕ → Bool
is_attribute_of doc e name r = is_attribute doc r && (is_parent doc e r && bytes_eq (row doc r).name name)

-- e has the attribute, and its value passes the test
abbrev pub has_value : Document → ℕ → List ℕ → (List ℕ → Bool) → Bool
has_value doc e name test = list_any (λ r. is_attribute_of doc e name r && test (row doc r).text) (rows doc)

-- e is an element whose attribute `id` has this value
abbrev pub has_id : Document → List ℕ → ℕ → Bool
has_id doc word e = is_element doc e && has_value doc e (codes "id") (λ value. bytes_eq value word)
