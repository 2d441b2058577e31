-- The line of a page by the fields of a script where no block stands, where some tests are stored.
use Rattle.std.specs.Prelude.{◌≡◌, ℕ, List, [], ◌∷◌}
use Rattle.std.specs.List.{list_any}
use Rattle.doc_model.specs.Document.{Document}
use Rattle.query_script.specs.declared.script.Field.{Field}
use Rattle.query_script.specs.declared.script.FieldValue.{FieldValue}
use Rattle.test_registry.specs.Names.{Known}
use Rattle.query_chain.specs.Chains.{IsValueOver}
use Rattle.json_lines.specs.Pages.{page_text}
use Rattle.page_records.specs.Lines.{is_refused}
use Rattle.extract_call.specs.Answers.{Answer}

-- each field has the value at its place
abbrev pub AreFieldValues : Known → Document → List Field → List FieldValue → Type 0
AreFieldValues tests doc [] [] = Unit {0}
AreFieldValues tests doc [] (v ∷ values) = ⊥
AreFieldValues tests doc (f ∷ fields) [] = ⊥
AreFieldValues tests doc (f ∷ fields) (v ∷ values) = IsValueOver tests doc f v × AreFieldValues tests doc fields values

-- the line has the fields with their values on the document, and it holds a refusal where one of the fields is refused
pub record IsFieldsLine (tests : Known) (fields : List Field) (name : List ℕ) (doc : Document) (a : Answer) : Type 0 where
  pub values : List FieldValue
  pub are : AreFieldValues tests doc fields values
  pub line : a ≡ record { text = page_text name fields values; refused = list_any is_refused values }
