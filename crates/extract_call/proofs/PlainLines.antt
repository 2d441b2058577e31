-- Where no block stands in a script, its lines are those of its fields.
use Rattle.std.proofs.Common.{◌≡◌, refl, ℕ, true, List, [], ◌∷◌, ◌++◌, map, ap, ap₂, sym, ◌∙◌, subst, inl, inr, codes}
use Rattle.std.specs.List.{list_any}
use Rattle.text_base.specs.Reasons.{script_word}
use Rattle.doc_model.specs.Document.{Document}
use Rattle.test_registry.specs.Names.{Known}
use Rattle.css_selectors.specs.declared.selector.Dialect.TheVariants.{Html}
use Rattle.query_script.specs.declared.script.Field.{Field}
use Rattle.query_script.specs.declared.script.FieldValue.{FieldValue}
use Rattle.query_chain.specs.Chains.{outcome, IsValueOver}
use Rattle.json_lines.specs.Lines.{reason_text}
use Rattle.json_lines.specs.Pages.{page_text}
use Rattle.page_records.specs.declared.script.Entry.{Entry}
use Rattle.page_records.specs.declared.script.Entry.TheVariants as entry
use Rattle.page_records.specs.declared.script.EntryValue.{EntryValue}
use Rattle.page_records.specs.declared.script.EntryValue.TheVariants as entry_value
use Rattle.page_records.specs.Lines.{line_text, is_refused, holds_refusal}
use Rattle.page_records.specs.Records.{plain, refuses, each, IsEntryValue}
use Rattle.page_records.specs.Scripts.{IsRecordScript}
use Rattle.extract_call.specs.Answers.{Answer}
use Rattle.extract_call.specs.Bulk.{bulk_script, bulk_text}
use Rattle.extract_call.specs.FieldLines.{AreFieldValues, IsFieldsLine}
use Rattle.extract_call.specs.Below.{Below}
use Rattle.extract_call.specs.Laws.{PlainLines, PlainRefusals, PlainBulk}
use Rattle.extract_call.specs.PageLines.{AreValues, IsValuesLine, IsPageLine, MakesLines}
use Rattle.extract_call.specs.Plans.{IsScriptRefused, IsByScript, IsBulkLine}
use Rattle.extract_call.proofs.BulkFields.{no_block}

-- what a document shows as one it shows as the other
abbrev ShowsAs : (List ℕ → Document → Answer → Type 0) → (List ℕ → Document → Answer → Type 0) → Type 0
ShowsAs shows other = (name : List ℕ) (doc : Document) (a : Answer) → shows name doc a → other name doc a

line_as : (shows other : List ℕ → Document → Answer → Type 0) → ShowsAs shows other → (name bytes : List ℕ) (a : Answer) → IsPageLine shows name bytes a → IsPageLine other name bytes a
line_as shows other so name bytes a (inl h) = inl h
line_as shows other so name bytes a (inr h) =
    inr (record { short = h.short; text = h.text; decodes = h.decodes; doc = h.doc; builds = h.builds; shown = so name h.doc a h.shown })

makes_as : (shows other : List ℕ → Document → Answer → Type 0) → ShowsAs shows other → (line : List ℕ → List ℕ → Answer) → MakesLines shows line → MakesLines other line
makes_as shows other so line makes name bytes = line_as shows other so name bytes (line name bytes) (makes name bytes)

-- ---- the values of entries that are fields

module _ (tests : Known) (doc : Document) where
  -- the value of a field
  abbrev IsOfField : Field → EntryValue → Type 0
  IsOfField f v = (w : FieldValue) × ((v ≡ entry_value.Plain w) × IsValueOver tests doc f w)

  of_field : (f : Field) (v : EntryValue) → IsEntryValue tests doc (entry.Plain f) v → IsOfField f v
  of_field f v (plain task, h) = (outcome doc 0 task, (h.1, (task, h.0, refl)))
  of_field f v (refuses why, h) = absurd h.0
  of_field f v (each actions tasks, h) = absurd h.0

  abbrev AreOfFields : List Field → List EntryValue → Type 0
  AreOfFields fields values = (ws : List FieldValue) × ((values ≡ map entry_value.Plain ws) × AreFieldValues tests doc fields ws)

  of_fields : (fields : List Field) (values : List EntryValue) → AreValues tests doc (map entry.Plain fields) values → AreOfFields fields values
  of_fields [] [] h = ([], (refl, tt))
  of_fields [] (v ∷ values) h = absurd h
  of_fields (f ∷ fields) [] h = absurd h
  of_fields (f ∷ fields) (v ∷ values) h =
      let first : IsOfField f v = of_field f v h.0 in
      let rest : AreOfFields fields values = of_fields fields values h.1 in
      (first.0 ∷ rest.0, (ap₂ ◌∷◌ first.1.0 rest.1.0, (first.1.1, rest.1.1)))

  as_entries : Below → (fields : List Field) (values : List FieldValue) → AreFieldValues tests doc fields values → AreValues tests doc (map entry.Plain fields) (map entry_value.Plain values)
  as_entries below [] [] h = tt
  as_entries below [] (v ∷ values) h = absurd h
  as_entries below (f ∷ fields) [] h = absurd h
  as_entries below (f ∷ fields) (v ∷ values) h = (below.plain_value tests doc f v h.0, as_entries below fields values h.1)

-- ---- their lines

abbrev fields_answer : List ℕ → List Field → List FieldValue → Answer
fields_answer name fields values = record { text = page_text name fields values; refused = list_any is_refused values }

abbrev entries_answer : List ℕ → List Entry → List EntryValue → Answer
entries_answer name entries values = record { text = line_text name entries values; refused = list_any holds_refusal values }

module _ (below : Below) where
  same_answer : (name : List ℕ) (fields : List Field) (values : List FieldValue) → entries_answer name (map entry.Plain fields) (map entry_value.Plain values) ≡ fields_answer name fields values
  same_answer name fields values = ap₂ (λ t r. record { text = t; refused = r }) (below.plain_line name fields values) (below.plain_refusal values)

  module _ (tests : Known) (fields : List Field) where
    by_fields : ShowsAs (IsValuesLine tests (map entry.Plain fields)) (IsFieldsLine tests fields)
    by_fields name doc a h =
        let of : AreOfFields tests doc fields h.values = of_fields tests doc fields h.values h.are in
        record { values = of.0; are = of.1.1; line = h.line ∙ ap (entries_answer name (map entry.Plain fields)) of.1.0 ∙ same_answer name fields of.0 }

    by_entries : ShowsAs (IsFieldsLine tests fields) (IsValuesLine tests (map entry.Plain fields))
    by_entries name doc a h = record { values = map entry_value.Plain h.values; are = as_entries tests doc below fields h.values h.are; line = h.line ∙ sym (same_answer name fields h.values) }

  -- ---- the plans

  pub plain_lines : PlainLines
  plain_lines tests d script names fields line plain_script reads =
      let shows : List ℕ → Document → Answer → Type 0 = IsValuesLine tests (map entry.Plain fields) in
      let other : List ℕ → Document → Answer → Type 0 = IsFieldsLine tests fields in
      let so : IsRecordScript tests d script (map entry.Plain fields) = below.reads_as_fields tests d script fields plain_script reads in
      let forth : (names ≡ names) × IsByScript tests d script line → MakesLines other line = λ h.
      makes_as shows other (by_fields tests fields) line
      (subst (λ (x : List Entry). MakesLines (IsValuesLine tests x) line) (below.one_script tests d script h.1.entries (map entry.Plain fields) h.1.reads so) h.1.makes) in
      let back : MakesLines other line → (names ≡ names) × IsByScript tests d script line = λ h.
      (refl, record { entries = map entry.Plain fields; reads = so; makes = makes_as other shows (by_entries tests fields) line h }) in
      (forth, back)

  pub plain_refusals : PlainRefusals
  plain_refusals tests d script names why a plain_script fault =
      let forth : IsScriptRefused script a → a ≡ record { text = reason_text (codes "script." ++ script_word why); refused = true } = λ h.
      h.line ∙ ap (λ w. record { text = reason_text (codes "script." ++ script_word w); refused = true }) (below.one_script_fault script h.why why h.cause (below.refused_as_fields script why plain_script fault)) in
      let back : a ≡ record { text = reason_text (codes "script." ++ script_word why); refused = true } → IsScriptRefused script a = λ e.
      record { why = why; cause = below.refused_as_fields script why plain_script fault; line = e } in
      (forth, back)

  bulk_by_fields : (tests : Known) (n : ℕ) (fields : List Field) (a : Answer) → IsRecordScript tests Html bulk_script (map entry.Plain fields) → IsBulkLine tests n a
      → IsPageLine (IsFieldsLine tests fields) (codes "bulk") (bulk_text n) a
  bulk_by_fields tests n fields a so (inl h) = absurd (below.read_or_refused tests Html bulk_script (map entry.Plain fields) h.why so h.cause)
  bulk_by_fields tests n fields a so (inr h) =
      line_as (IsValuesLine tests (map entry.Plain fields)) (IsFieldsLine tests fields) (by_fields tests fields) (codes "bulk") (bulk_text n) a
      (subst (λ (x : List Entry). IsPageLine (IsValuesLine tests x) (codes "bulk") (bulk_text n) a) (below.one_script tests Html bulk_script h.entries (map entry.Plain fields) h.reads so) h.line)

  pub plain_bulk : PlainBulk
  plain_bulk tests n fields a reads =
      let so : IsRecordScript tests Html bulk_script (map entry.Plain fields) = below.reads_as_fields tests Html bulk_script fields no_block reads in
      let back : IsPageLine (IsFieldsLine tests fields) (codes "bulk") (bulk_text n) a → IsBulkLine tests n a = λ h.
      inr (record { entries = map entry.Plain fields; reads = so; line = line_as (IsFieldsLine tests fields) (IsValuesLine tests (map entry.Plain fields)) (by_entries tests fields) (codes "bulk") (bulk_text n) a h }) in
      (bulk_by_fields tests n fields a so, back)
