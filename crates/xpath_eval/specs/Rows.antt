-- Lists of rows of a document.
use Rattle.std.specs.Prelude.{ℕ, List, length}
use Rattle.doc_model.specs.Document.{Document}
use Rattle.doc_model.specs.RowLists.{Run}

-- rows of the document, in its order, each once
abbrev pub AreRows : Document → List ℕ → Type 0
AreRows doc xs = Run 0 (length doc) xs
