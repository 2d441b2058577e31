-- What holds of the canonical markup of the documents of pages.
use Rattle.std.specs.Prelude.{ℕ, List, encode_utf8_all}
use Rattle.std.specs.Str.{IsUtf8}
use Rattle.doc_model.specs.Document.{Document}
use Rattle.html_reader.specs.Pages.{BuildsPage}
use Rattle.markup_out.specs.Markup.{canonical}

-- where a UTF-8 text builds a document, the canonical markup of the document builds it
abbrev pub CanonicalBuilds : Type 0
CanonicalBuilds = (page : List ℕ) (doc : Document) → IsUtf8 page → BuildsPage page doc → BuildsPage (encode_utf8_all (canonical doc)) doc
