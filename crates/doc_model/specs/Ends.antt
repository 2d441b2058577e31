-- Where the rows below a row end.
use Rattle.std.specs.Prelude.{◌≡◌, ℕ, ◌<◌, ◌≤◌, length, false, IsTrue}
use Rattle.doc_model.specs.Document.{Document, below}

-- e is the first row after i that is not below i, or the number of rows where all that follow are below it
pub record IsEnd (doc : Document) (i e : ℕ) : Type 0 where
  pub after : i < e
  pub within : e ≤ length doc
  pub inside : (y : ℕ) → i < y → y < e → IsTrue (below doc i y)
  pub outside : e < length doc → below doc i e ≡ false
