-- What holds of the markup of all documents.
use Rattle.std.specs.Prelude.{◌≡◌, ℕ, false, flat_map}
use Rattle.doc_model.specs.Document.{Document, row, IsDocument}
use Rattle.markup_out.specs.Markup.{children, markup_of, markup}

-- the markup of a row is made of the markup of its children, whole
abbrev pub MarkupOfChildren : Type 0
MarkupOfChildren = (doc : Document) (x : ℕ) → IsDocument doc → markup doc x ≡ markup_of false (row doc x).kind doc x (flat_map (markup doc) (children doc x))
