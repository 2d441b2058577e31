-- Entries that are all fields: their values, their line, and whether it holds a refusal.
use Rattle.std.proofs.Common.{◌≡◌, ℕ, List, [], ◌∷◌, ◌++◌, ◌||◌, map, zip, codes, refl, ap}
use Rattle.std.specs.List.{list_any, join_with_byte}
use Rattle.json.specs.Print.{quoted}
use Rattle.doc_model.specs.Document.{Document}
use Rattle.test_registry.specs.Names.{Known}
use Rattle.query_script.specs.declared.script.Field.{Field}
use Rattle.query_script.specs.declared.script.FieldValue.{FieldValue}
use Rattle.query_chain.specs.Chains.{IsValueOver}
use Rattle.json_lines.specs.Pages.{field_text, page_text}
use Rattle.page_records.specs.declared.script.Entry.{Entry}
use Rattle.page_records.specs.declared.script.Entry.TheVariants as entry
use Rattle.page_records.specs.declared.script.EntryValue.{EntryValue}
use Rattle.page_records.specs.declared.script.EntryValue.TheVariants as entry_value
use Rattle.page_records.specs.Lines.{entry_text, line_text, is_refused, holds_refusal}
use Rattle.page_records.specs.Records.{plain, IsEntryValue}

-- the texts of the entries are those of the fields
same_texts : (fields : List Field) (values : List FieldValue)
    → map (λ (p : Entry × EntryValue). entry_text p.0 p.1) (zip (map entry.Plain fields) (map entry_value.Plain values)) ≡ map field_text (zip fields values)
same_texts [] values = refl
same_texts (f ∷ fields) [] = refl
same_texts (f ∷ fields) (v ∷ values) = ap (λ ts. field_text (f, v) ∷ ts) (same_texts fields values)

pub plain_line : (name : List ℕ) (fields : List Field) (values : List FieldValue) → line_text name (map entry.Plain fields) (map entry_value.Plain values) ≡ page_text name fields values
plain_line name fields values =
    ap (λ ts. codes "{\"fields\":[" ++ (join_with_byte 44 ts ++ (codes "],\"page\":" ++ (quoted name ++ codes "}")))) (same_texts fields values)

pub plain_refusal : (values : List FieldValue) → list_any holds_refusal (map entry_value.Plain values) ≡ list_any is_refused values
plain_refusal [] = refl
plain_refusal (v ∷ values) = ap (λ b. is_refused v || b) (plain_refusal values)

pub plain_value : (tests : Known) (doc : Document) (f : Field) (w : FieldValue) → IsValueOver tests doc f w → IsEntryValue tests doc (entry.Plain f) (entry_value.Plain w)
plain_value tests doc f w h = (plain h.0, (h.1, ap entry_value.Plain h.2))
