-- What an attribute says of a language.
use Rattle.std.specs.Prelude.{ℕ, Bool, false, List, Option, Some, None}
use Rattle.doc_model.specs.Document.{Document, row}
use Rattle.css_meaning.specs.Attributes.{lang_test}

-- whether the attribute names the language, where there is one
abbrev pub says : Document → Option ℕ → List ℕ → Bool
says doc None x = false
says doc (Some z) x = lang_test (row doc z).text x
