-- An entry has one value on a document, of its form.
use Rattle.std.proofs.Common.{◌≡◌, ℕ, Bool, true, false, List, [], ◌∷◌, length, suc, refl, sym, ◌∙◌, ap, ap₂}
use Rattle.std.specs.Prelude.{Option, Some, None, if◌then◌else◌, nat_lt}
use Rattle.std.specs.List.{AllByRecursion}
use Rattle.std.proofs.lemmas.List.{length-map}
use Rattle.doc_model.specs.Document.{Document}
use Rattle.test_registry.specs.Names.{Known}
use Rattle.query_script.specs.declared.script.ChainStep.{ChainStep}
use Rattle.query_script.specs.declared.script.Field.{Field}
use Rattle.query_script.specs.declared.script.FieldValue.{FieldValue}
use Rattle.query_script.specs.declared.script.Reason.{Reason}
use Rattle.query_script.specs.declared.script.Reason.TheVariants as reason
use Rattle.query_script.specs.Ordered.{IsOrderedOver}
use Rattle.query_chain.specs.Chains.{outcome, field_limits, most_text}
use Rattle.query_chain.specs.Rows.{rows_given}
use Rattle.query_chain.specs.Tasks.{Action, select, Task, AreActions}
use Rattle.query_chain.proofs.Values.{same_actions, one_task, a_task}
use Rattle.page_records.specs.declared.script.Block.{Block}
use Rattle.page_records.specs.declared.script.Entry.{Entry}
use Rattle.page_records.specs.declared.script.Entry.TheVariants as entry
use Rattle.page_records.specs.declared.script.EntryValue.{EntryValue}
use Rattle.page_records.specs.declared.script.EntryValue.TheVariants as entry_value
use Rattle.page_records.specs.Lines.{IsRecordOf, HasForm}
use Rattle.page_records.specs.Ordered.{IsRowQuery, IsOrderedEntry}
use Rattle.page_records.specs.Records.{EntryTask, plain, refuses, each, AreTasks, IsBlockTask, IsEntryTask, most_rows, records, all_bytes, sized, sized_records, entry_outcome, IsEntryValue}
use Rattle.query_script.specs.declared.script.ChainStep.TheVariants as step

module _ (tests : Known) where
  -- ---- one task at most

  one_tasks : (fields : List Field) (ts us : List Task) → AreTasks tests fields ts → AreTasks tests fields us → ts ≡ us
  one_tasks [] [] [] h k = refl
  one_tasks [] [] (u ∷ us) h k = absurd k
  one_tasks [] (t ∷ ts) us h k = absurd h
  one_tasks (f ∷ fields) [] us h k = absurd h
  one_tasks (f ∷ fields) (t ∷ ts) [] h k = absurd k
  one_tasks (f ∷ fields) (t ∷ ts) (u ∷ us) h k = ap₂ ◌∷◌ (one_task tests f.chain t u h.0 k.0) (one_tasks fields ts us h.1 k.1)

  one_block_task : (block : Block) (r : Option Reason) (t u : EntryTask) → IsBlockTask tests block r t → IsBlockTask tests block r u → t ≡ u
  one_block_task block (Some why) (refuses v) (refuses w) h k = ap refuses (h ∙ sym k)
  one_block_task block (Some why) (refuses v) (plain u) h k = absurd k
  one_block_task block (Some why) (refuses v) (each ys us) h k = absurd k
  one_block_task block (Some why) (plain t) u h k = absurd h
  one_block_task block (Some why) (each xs ts) u h k = absurd h
  one_block_task block None (each xs ts) (each ys us) h k = ap₂ each (same_actions tests block.steps xs ys h.0 k.0) (one_tasks block.fields ts us h.1 k.1)
  one_block_task block None (each xs ts) (plain u) h k = absurd k
  one_block_task block None (each xs ts) (refuses w) h k = absurd k
  one_block_task block None (plain t) u h k = absurd h
  one_block_task block None (refuses v) u h k = absurd h

  one_entry_task : (e : Entry) (t u : EntryTask) → IsEntryTask tests e t → IsEntryTask tests e u → t ≡ u
  one_entry_task (entry.Plain field) (plain t) (plain u) h k = ap plain (one_task tests field.chain t u h k)
  one_entry_task (entry.Plain field) (plain t) (refuses w) h k = absurd k
  one_entry_task (entry.Plain field) (plain t) (each ys us) h k = absurd k
  one_entry_task (entry.Plain field) (refuses v) u h k = absurd h
  one_entry_task (entry.Plain field) (each xs ts) u h k = absurd h
  one_entry_task (entry.Each block) t u h k = one_block_task block block.refused t u h k

  -- ---- and one at least, where the entry can be run

  row_actions : (steps : List ChainStep) → AllByRecursion (IsRowQuery tests) steps → (xs : List Action) × AreActions tests steps xs
  row_actions [] h = ([], tt)
  row_actions (step.Query query ∷ steps) h = let rest = row_actions steps h.1 in (select h.0.0 ∷ rest.0, (h.0.1.0, rest.1))
  row_actions (step.Match pattern ∷ steps) h = absurd h.0
  row_actions (step.Keep kind text ∷ steps) h = absurd h.0

  tasks_of : (fields : List Field) → AllByRecursion (IsOrderedOver tests) fields → (ts : List Task) × AreTasks tests fields ts
  tasks_of [] h = ([], tt)
  tasks_of (f ∷ fields) h =
      let first = a_task tests f.chain h.0 in
      let rest = tasks_of fields h.1 in
      (first.0 ∷ rest.0, (first.1, rest.1))

  a_block_task : (block : Block) (r : Option Reason) → IsOrderedEntry tests (entry.Each block) → (t : EntryTask) × IsBlockTask tests block r t
  a_block_task block (Some why) h = (refuses why, refl)
  a_block_task block None h =
      let rows = row_actions block.steps h.0 in
      let fields = tasks_of block.fields h.1 in
      (each rows.0 fields.0, (rows.1, fields.1))

  an_entry_task : (e : Entry) → IsOrderedEntry tests e → (t : EntryTask) × IsEntryTask tests e t
  an_entry_task (entry.Plain field) h = let found = a_task tests field.chain h in (plain found.0, found.1)
  an_entry_task (entry.Each block) h = a_block_task block block.refused h

-- ---- the value

pub one_entry_value : (tests : Known) (doc : Document) (e : Entry) (v w : EntryValue) → IsEntryValue tests doc e v → IsEntryValue tests doc e w → v ≡ w
one_entry_value tests doc e v w h k = h.1.1 ∙ (ap (entry_outcome doc) (one_entry_task tests e h.0 k.0 h.1.0 k.1.0) ∙ sym k.1.1)

pub an_entry_value : (tests : Known) (doc : Document) (e : Entry) → IsOrderedEntry tests e → (v : EntryValue) × IsEntryValue tests doc e v
an_entry_value tests doc e h = let found = an_entry_task tests e h in (entry_outcome doc found.0, (found.0, (found.1, refl)))

-- ---- its form

-- a task for each field
as_many : (tests : Known) (fields : List Field) (ts : List Task) → AreTasks tests fields ts → length ts ≡ length fields
as_many tests [] [] h = refl
as_many tests [] (t ∷ ts) h = absurd h
as_many tests (f ∷ fields) [] h = absurd h
as_many tests (f ∷ fields) (t ∷ ts) h = ap suc (as_many tests fields ts h.1)

module _ (doc : Document) (block : Block) (ts : List Task) (count : length ts ≡ length block.fields) where
  records_of : (rows : List ℕ) → AllByRecursion (IsRecordOf block.fields) (records doc ts rows)
  records_of [] = tt
  records_of (x ∷ rows) = (length-map ts (outcome doc x) ∙ count, records_of rows)

  sized_form : (all : List (List FieldValue)) → AllByRecursion (IsRecordOf block.fields) all → HasForm (entry.Each block) (sized all)
  sized_form all h = by_size (nat_lt most_text (all_bytes all))
    where
      by_size : (b : Bool) → HasForm (entry.Each block) (if b then entry_value.Refused reason.Output else entry_value.Each all)
      by_size true = tt
      by_size false = h

  rows_form : (rows : Option (List ℕ)) → HasForm (entry.Each block) (sized_records doc ts rows)
  rows_form None = tt
  rows_form (Some rows) = sized_form (records doc ts rows) (records_of rows)

block_form : (tests : Known) (doc : Document) (block : Block) (r : Option Reason) (t : EntryTask) → IsBlockTask tests block r t → HasForm (entry.Each block) (entry_outcome doc t)
block_form tests doc block (Some why) (refuses w) h = tt
block_form tests doc block (Some why) (plain t) h = absurd h
block_form tests doc block (Some why) (each xs ts) h = absurd h
block_form tests doc block None (each xs ts) h = rows_form doc block ts (as_many tests block.fields ts h.1) (rows_given field_limits doc most_rows xs)
block_form tests doc block None (plain t) h = absurd h
block_form tests doc block None (refuses w) h = absurd h

pub outcome_form : (tests : Known) (doc : Document) (e : Entry) (t : EntryTask) → IsEntryTask tests e t → HasForm e (entry_outcome doc t)
outcome_form tests doc (entry.Plain field) (plain t) h = tt
outcome_form tests doc (entry.Plain field) (refuses w) h = absurd h
outcome_form tests doc (entry.Plain field) (each xs ts) h = absurd h
outcome_form tests doc (entry.Each block) t h = block_form tests doc block block.refused t h
