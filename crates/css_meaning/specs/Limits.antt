-- The documents on which a printed selector is promised to mean what the selector means.
use Rattle.std.specs.Prelude.{◌≡◌, ℕ, Bool, false, ◌==◌, IsTrue}
use Rattle.std.specs.List.{list_any}
pub use Rattle.doc_model.specs.Limits.{Countable}
use Rattle.doc_model.specs.Document.{Document, row, is_attribute}

abbrev pub is_form_feed : ℕ → Bool
is_form_feed c = c == 12

-- No attribute value holds a form feed, which is white space in selectors and none in XPath.
abbrev pub NoFormFeed : Document → Type 0
NoFormFeed doc = (r : ℕ) → IsTrue (is_attribute doc r) → list_any is_form_feed (row doc r).text ≡ false
