-- Each text reads as entries or is refused as a whole.
use Rattle.std.proofs.Common.{◌≡◌, ◌⊎◌, ℕ, ◌<◌, ◌≤◌, Bool, true, false, List, [], ◌∷◌, length, refl, sym, ◌∙◌, inl, inr}
use Rattle.std.specs.Prelude.{Some, None}
use Rattle.std.specs.List.{list_any}
use Rattle.std.specs.Str.{bytes_eq}
use Rattle.std.proofs.lemmas.Bool.{cases_lt}
use Rattle.std.proofs.lemmas.Map.Keys.{IsDistinct-cons, IsDistinct-head, IsDistinct-tail}
use Rattle.text_base.specs.declared.reasons.ScriptFault.{ScriptFault}
use Rattle.text_base.specs.declared.reasons.ScriptFault.TheVariants as script
use Rattle.test_registry.specs.Names.{Known}
use Rattle.css_selectors.specs.declared.selector.Dialect.{Dialect}
use Rattle.query_script.specs.declared.script.ChainStep.{ChainStep}
use Rattle.query_script.specs.declared.script.Field.{Field}
use Rattle.query_script.specs.declared.script.Reason.{Reason}
use Rattle.query_script.specs.declared.script.Reason.TheVariants as reason
use Rattle.query_script.specs.declared.steps.RawStep.{RawStep}
use Rattle.query_script.specs.Cuts.{fields_of}
use Rattle.query_script.specs.Fields.{AreFields, most_script, most_fields}
use Rattle.query_script.specs.Names.{is_named, name_of, after_colon}
use Rattle.query_script.proofs.Exists.{a_field}
use Rattle.page_records.specs.declared.script.Block.{Block}
use Rattle.page_records.specs.declared.script.Entry.{Entry}
use Rattle.page_records.specs.declared.script.Entry.TheVariants as entry
use Rattle.page_records.specs.Braces.{is_block, entries_of}
use Rattle.page_records.specs.Blocks.{IsWritten, AreRowSteps, Differ, names_of, IsBlockReason, IsContent, IsBlock}
use Rattle.page_records.specs.Scripts.{IsEntry, AreEntries, IsRecordScript, IsRecordFault}
use Rattle.page_records.proofs.BodyLemmas.{none_differ, none_same, one_same}
use Rattle.page_records.proofs.ContentLemmas.{first_of_step, step_reason}
use Rattle.page_records.proofs.SomeBlock.{Text, a_text, Steps, some_rows}

-- names differ, or two are the same
do_differ : (names : List (List ℕ)) → Differ names ⊎ (Differ names → ⊥)
do_differ [] = inl none_differ
do_differ (n ∷ names) = by_rest (do_differ names)
  where
    by_first : Differ names → (b : Bool) → list_any (bytes_eq n) names ≡ b → Differ (n ∷ names) ⊎ (Differ (n ∷ names) → ⊥)
    by_first rest false e = inl (IsDistinct-cons bytes_eq n names (none_same n names e) rest)
    by_first rest true e = inr (λ h. let clash : true ≡ false = sym e ∙ one_same n names (IsDistinct-head bytes_eq n names h) in cc)

    by_rest : Differ names ⊎ (Differ names → ⊥) → Differ (n ∷ names) ⊎ (Differ (n ∷ names) → ⊥)
    by_rest (inl rest) = by_first rest (list_any (bytes_eq n) names) refl
    by_rest (inr same) = inr (λ h. same (IsDistinct-tail bytes_eq n names h))

-- a block of this name that is refused
refused : List ℕ → Reason → Block
refused name why = record { name = name; steps = []; fields = []; refused = Some why }

module _ (tests : Known) (d : Dialect) where
  some_fields : (pieces : List (List ℕ)) → (fields : List Field) × AreFields tests d pieces fields
  some_fields [] = ([], tt)
  some_fields (p ∷ pieces) =
      let first = a_field tests d p in
      let rest = some_fields pieces in
      (first.0 ∷ rest.0, (first.1, rest.1))

  -- a block of this name by the text after it
  Named : List ℕ → List ℕ → Type 0
  Named name text = (b : Block) × ((b.name ≡ name) × IsContent tests d text b.refused b)

  no_content : (name text : List ℕ) (why : Reason) → IsBlockReason tests d text why → Named name text
  unfolding Named refused
  no_content name text why cause = (refused name why, (refl, (cause, record { steps = refl; fields = refl })))

  a_content : (name text : List ℕ) → Named name text
  unfolding Named
  a_content name text = by_text (a_text text)
    where
      by_names : (written : List RawStep) (body : List ℕ) → IsWritten text written body → (kept : List ChainStep) → AreRowSteps tests d true written kept →
          Differ (names_of (fields_of body)) ⊎ (Differ (names_of (fields_of body)) → ⊥) → Named name text
      by_names written body is kept rows (inl differ) =
          let all = some_fields (fields_of body) in
          (record { name = name; steps = kept; fields = all.0; refused = None }, (refl, record { written = written; body = body; is = is; kept = rows; differ = differ; are = all.1 }))
      by_names written body is kept rows (inr same) = no_content name text reason.Twice (record { written = written; body = body; is = is; steps = kept; kept = rows; same = same })

      by_steps : (written : List RawStep) (body : List ℕ) → IsWritten text written body → Steps tests d true written → Named name text
      by_steps written body is (inl kept) = by_names written body is kept.0 kept.1 (do_differ (names_of (fields_of body)))
      by_steps written body is (inr why) =
          no_content name text why.0 (step_reason tests d text why.0 (first_of_step tests d true written why.0 why.1) (record { written = written; body = body; is = is; first = why.1 }))

      by_text : Text text → Named name text
      by_text (inl t) = by_steps t.0 t.1.0 t.1.1 (some_rows tests d true t.0)
      by_text (inr none) = no_content name text reason.Block none

  a_block : (piece : List ℕ) → (b : Block) × IsBlock tests d piece b
  unfolding Named refused
  a_block piece = by_name (is_named piece) refl
    where
      by_name : (named : Bool) → is_named piece ≡ named → (b : Block) × IsBlock tests d piece b
      by_name true e =
          let c = a_content (name_of piece) (after_colon piece) in
          (c.0, record { name = c.1.0; reads = inr (record { named = e; is = c.1.1 }) })
      by_name false e = (refused (name_of piece) reason.Name, record { name = refl; reads = inl (record { unnamed = e; is = refl; empty = record { steps = refl; fields = refl } }) })

  an_entry : (piece : List ℕ) → (e : Entry) × IsEntry tests d piece e
  an_entry piece = by_brace (is_block piece) refl
    where
      by_brace : (b : Bool) → is_block piece ≡ b → (e : Entry) × IsEntry tests d piece e
      by_brace true e = let b = a_block piece in (entry.Each b.0, (e, b.1))
      by_brace false e = let f = a_field tests d piece in (entry.Plain f.0, (e, f.1))

  some_entries : (pieces : List (List ℕ)) → (entries : List Entry) × AreEntries tests d pieces entries
  some_entries [] = ([], tt)
  some_entries (p ∷ pieces) =
      let first = an_entry p in
      let rest = some_entries pieces in
      (first.0 ∷ rest.0, (first.1, rest.1))

  pub some_reading : (text : List ℕ) → ((entries : List Entry) × IsRecordScript tests d text entries) ⊎ ((f : ScriptFault) × IsRecordFault text f)
  some_reading text = by_bytes (cases_lt most_script (length text))
    where
      by_count : length text ≤ most_script → (most_fields < length (entries_of text)) ⊎ (length (entries_of text) ≤ most_fields) → ((entries : List Entry) × IsRecordScript tests d text entries) ⊎ ((f : ScriptFault) × IsRecordFault text f)
      by_count short (inl many) = inr (script.Fields, record { short = short; many = many })
      by_count short (inr few) = let all = some_entries (entries_of text) in inl (all.0, record { short = short; few = few; are = all.1 })

      by_bytes : (most_script < length text) ⊎ (length text ≤ most_script) → ((entries : List Entry) × IsRecordScript tests d text entries) ⊎ ((f : ScriptFault) × IsRecordFault text f)
      by_bytes (inl long) = inr (script.Long, long)
      by_bytes (inr short) = by_count short (cases_lt most_fields (length (entries_of text)))
