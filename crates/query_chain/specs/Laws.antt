-- What holds of all fields and documents, from each row on and whichever tests are stored.
use Rattle.std.specs.Prelude.{◌≡◌, ℕ}
use Rattle.doc_model.specs.Document.{Document}
use Rattle.test_registry.specs.Names.{Known}
use Rattle.query_script.specs.declared.script.Field.{Field}
use Rattle.query_script.specs.declared.script.FieldValue.{FieldValue}
use Rattle.query_script.specs.Ordered.{IsOrderedOver}
use Rattle.query_chain.specs.Chains.{IsValueAtOver}

-- a field has one value at most on a document
abbrev pub OneValue : Type 0
OneValue = (tests : Known) (doc : Document) (x : ℕ) (field : Field) (v w : FieldValue) → IsValueAtOver tests doc x field v → IsValueAtOver tests doc x field w → v ≡ w

-- and one at least
abbrev pub AValue : Type 0
AValue = (tests : Known) (doc : Document) (x : ℕ) (field : Field) → IsOrderedOver tests field → (v : FieldValue) × IsValueAtOver tests doc x field v
