-- The attribute that `lang` goes by.
use Rattle.std.specs.Prelude.{ℕ, Bool, false, List, Option, Some, None}
use Rattle.doc_model.specs.Document.{Document, row}
use Rattle.xpath_parser.specs.Functions.{is_language}

-- whether the attribute says the language, where there is one
abbrev pub says : Document → Option ℕ → List ℕ → Bool
says doc None x = false
says doc (Some z) x = is_language doc x (row doc z).text
