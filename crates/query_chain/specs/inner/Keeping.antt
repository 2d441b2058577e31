-- Which items a test keeps.
use Rattle.std.specs.Prelude.{ℕ, Bool, List, encode_utf8_all}
use Rattle.doc_model.specs.Document.{Document, row}
use Rattle.test_registry.specs.declared.kinds.TestKind.{TestKind}
use Rattle.test_registry.specs.Meets.{meets}
use Rattle.query_chain.specs.Chains.{row_text}

-- the text and the other meet the kind, on their bytes
abbrev pub meets_text : TestKind → List ℕ → List ℕ → Bool
meets_text kind other t = meets kind (encode_utf8_all t) (encode_utf8_all other)

-- so do the row's text and the other
abbrev pub row_meets : Document → TestKind → List ℕ → ℕ → Bool
row_meets doc kind other x = meets_text kind other (row_text (row doc x).kind doc x)
