-- The value of an entry on a document: that of a field, or a record for each row that the steps of a block give.
use Rattle.std.specs.Prelude.{◌≡◌, ℕ, if◌then◌else◌, nat_lt, List, [], ◌∷◌, map, flat_map, All, Option, Some, None}
use Rattle.doc_model.specs.Document.{Document}
use Rattle.test_registry.specs.Names.{Known}
use Rattle.query_script.specs.declared.script.Field.{Field}
use Rattle.query_script.specs.declared.script.FieldValue.{FieldValue}
use Rattle.query_script.specs.declared.script.FieldValue.TheVariants as value
use Rattle.query_script.specs.declared.script.Reason.{Reason}
use Rattle.query_script.specs.declared.script.Reason.TheVariants as reason
use Rattle.query_chain.specs.Items.{bytes_of}
use Rattle.query_chain.specs.Tasks.{Action, Task, AreActions, IsTaskOver, ActionAsks, TaskAsks}
use Rattle.query_chain.specs.Chains.{outcome, field_limits, most_text}
use Rattle.query_chain.specs.Rows.{rows_given}
use Rattle.page_records.specs.declared.script.Block.{Block}
use Rattle.page_records.specs.declared.script.Entry.{Entry}
use Rattle.page_records.specs.declared.script.Entry.TheVariants as entry
use Rattle.page_records.specs.declared.script.EntryValue.{EntryValue}
use Rattle.page_records.specs.declared.script.EntryValue.TheVariants as entry_value

-- ---- what an entry has to do

-- what a field has to do; nothing, since the block is refused; or the actions of a block's steps, and for each row that they
-- give what each field of its body has to do
pub data EntryTask : Type 0 where
  plain : Task → EntryTask
  refuses : Reason → EntryTask
  each : List Action → List Task → EntryTask

-- each field has the task at its place
abbrev pub AreTasks : Known → List Field → List Task → Type 0
AreTasks tests [] [] = Unit {0}
AreTasks tests [] (t ∷ tasks) = ⊥
AreTasks tests (f ∷ fields) [] = ⊥
AreTasks tests (f ∷ fields) (t ∷ tasks) = IsTaskOver tests f t × AreTasks tests fields tasks

-- a block that is refused has its reason alone; another one its steps' actions and its fields' tasks
abbrev pub IsBlockTask : Known → Block → Option Reason → EntryTask → Type 0
IsBlockTask tests block (Some why) (refuses w) = w ≡ why
IsBlockTask tests block None (each actions tasks) = AreActions tests block.steps actions × AreTasks tests block.fields tasks
IsBlockTask tests block refused task = ⊥

-- the task of an entry where these tests are stored
abbrev pub IsEntryTask : Known → Entry → EntryTask → Type 0
IsEntryTask tests (entry.Plain field) (plain task) = IsTaskOver tests field task
IsEntryTask tests (entry.Plain field) task = ⊥
IsEntryTask tests (entry.Each block) task = IsBlockTask tests block block.refused task

-- each stored test that the task asks is there
abbrev pub EntryAsks : Known → EntryTask → Type 0
EntryAsks tests (plain task) = TaskAsks tests task
EntryAsks tests (refuses why) = Unit {0}
EntryAsks tests (each actions tasks) = All (ActionAsks tests) actions × All (TaskAsks tests) tasks

-- ---- the records of a block

-- the most rows of a block
abbrev pub most_rows : ℕ
most_rows = 10000

-- the record of a row: each field of the body has the value that its chain has from that row
abbrev pub record_at : Document → List Task → ℕ → List FieldValue
record_at doc tasks x = map (outcome doc x) tasks

-- those of rows, in order
abbrev pub records : Document → List Task → List ℕ → List (List FieldValue)
records doc tasks rows = map (record_at doc tasks) rows

-- the strings of a value
abbrev pub strings_in : FieldValue → List (List ℕ)
strings_in (value.All texts) = texts
strings_in (value.One None) = []
strings_in (value.One (Some t)) = t ∷ []
strings_in (value.Refused why) = []

-- how many bytes the strings of a record have together
abbrev pub record_bytes : List FieldValue → ℕ
record_bytes values = bytes_of (flat_map strings_in values)

-- and those of all records
abbrev pub all_bytes : List (List FieldValue) → ℕ
all_bytes all = bytes_of (flat_map (flat_map strings_in) all)

-- the records, if their strings have not more bytes together than there may be
abbrev pub sized : List (List FieldValue) → EntryValue
sized all = if nat_lt most_text (all_bytes all) then entry_value.Refused reason.Output else entry_value.Each all

-- the records of the rows that the steps give from the root node on; none are there where a step gives too many items
abbrev pub sized_records : Document → List Task → Option (List ℕ) → EntryValue
sized_records doc tasks None = entry_value.Refused reason.Selection
sized_records doc tasks (Some rows) = sized (records doc tasks rows)

-- ---- the value

-- the records of a block, if no limit is passed: the number of items comes first, and the bytes of all strings last
abbrev pub records_value : Document → List Action → List Task → EntryValue
records_value doc actions tasks = sized_records doc tasks (rows_given field_limits doc most_rows actions)

-- what a task has as its value on a document
abbrev pub entry_outcome : Document → EntryTask → EntryValue
entry_outcome doc (plain task) = entry_value.Plain (outcome doc 0 task)
entry_outcome doc (refuses why) = entry_value.Refused why
entry_outcome doc (each actions tasks) = records_value doc actions tasks

-- the value of an entry on a document where these tests are stored: that of its task
abbrev pub IsEntryValue : Known → Document → Entry → EntryValue → Type 0
IsEntryValue tests doc e v = (task : EntryTask) × (IsEntryTask tests e task × (v ≡ entry_outcome doc task))
