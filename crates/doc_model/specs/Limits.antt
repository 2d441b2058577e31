-- The documents of which numbers count everything.
use Rattle.std.specs.Prelude.{ℕ, ◌^◌, ◌<◌, IsTrue, length}
use Rattle.doc_model.specs.Document.{Document, row, is_attribute}

-- The rows and the characters of each attribute value are at most 2^53 - 1, so that their count is a number of XPath.
pub record Countable (doc : Document) : Type 0 where
  pub all_rows : length doc < 2 ^ 53
  pub values : (r : ℕ) → IsTrue (is_attribute doc r) → length (row doc r).text < 2 ^ 53
