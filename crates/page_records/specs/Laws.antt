-- What holds of all scripts of fields and blocks, and of the values and lines of their entries.
use Rattle.std.specs.Prelude.{◌≡◌, ◌⊎◌, ℕ, false, List, map}
use Rattle.std.specs.List.{AllByRecursion, list_any}
use Rattle.std.specs.Str.{IsUtf8}
use Rattle.text_base.specs.declared.reasons.ScriptFault.{ScriptFault}
use Rattle.doc_model.specs.Document.{Document}
use Rattle.test_registry.specs.Names.{Known}
use Rattle.css_selectors.specs.declared.selector.Dialect.{Dialect}
use Rattle.query_script.specs.declared.script.Field.{Field}
use Rattle.query_script.specs.declared.script.FieldValue.{FieldValue}
use Rattle.query_script.specs.Fields.{IsScriptOver, IsScriptFault}
use Rattle.query_chain.specs.Chains.{IsValueOver}
use Rattle.json_lines.specs.Pages.{page_text}
use Rattle.page_records.specs.declared.script.Entry.{Entry}
use Rattle.page_records.specs.declared.script.Entry.TheVariants as entry
use Rattle.page_records.specs.declared.script.EntryValue.{EntryValue}
use Rattle.page_records.specs.declared.script.EntryValue.TheVariants as entry_value
use Rattle.page_records.specs.Braces.{stands, opens}
use Rattle.page_records.specs.Lines.{HasForm, HasNames, line_text, is_refused, holds_refusal}
use Rattle.page_records.specs.Ordered.{IsOrderedEntry, IsStoredEntry}
use Rattle.page_records.specs.Records.{EntryTask, IsEntryTask, entry_outcome, IsEntryValue}
use Rattle.page_records.specs.Scripts.{IsRecordScript, IsRecordFault}
use Rattle.page_records.specs.Selectors.{IsSelectorText}

-- ---- scripts

-- in a dialect, and where these tests are stored, a text reads as one list of entries at most
abbrev pub HasOneReading : Type 0
HasOneReading = (tests : Known) (d : Dialect) (text : List ℕ) (entries other : List Entry) → IsRecordScript tests d text entries → IsRecordScript tests d text other → entries ≡ other

-- it is refused as a whole for one reason at most, and not where it reads as entries
abbrev pub HasOneFault : Type 0
HasOneFault = (text : List ℕ) (fault other : ScriptFault) → IsRecordFault text fault → IsRecordFault text other → fault ≡ other

abbrev pub IsReadOrRefused : Type 0
IsReadOrRefused = (tests : Known) (d : Dialect) (text : List ℕ) (entries : List Entry) (fault : ScriptFault) → IsRecordScript tests d text entries → IsRecordFault text fault → ⊥

-- each text reads as entries or is refused
abbrev pub HasReading : Type 0
HasReading = (tests : Known) (d : Dialect) (text : List ℕ) → ((entries : List Entry) × IsRecordScript tests d text entries) ⊎ ((fault : ScriptFault) × IsRecordFault text fault)

-- a text without `{` outside quotes reads as the fields that it has where no block may stand, and is refused as there
abbrev pub ReadsAsFields : Type 0
ReadsAsFields =
    (tests : Known) (d : Dialect) (text : List ℕ) (fields : List Field) → stands opens 0 text ≡ false
    → IsScriptOver tests d text fields → IsRecordScript tests d text (map entry.Plain fields)

abbrev pub IsRefusedAsFields : Type 0
IsRefusedAsFields = (text : List ℕ) (fault : ScriptFault) → stands opens 0 text ≡ false → IsScriptFault text fault → IsRecordFault text fault

-- the entries of a script that is UTF-8 can be run
abbrev pub EntriesRun : Type 0
EntriesRun =
    (tests : Known) (d : Dialect) (text : List ℕ) (entries : List Entry) → IsUtf8 text
    → IsRecordScript tests d text entries → AllByRecursion (IsOrderedEntry tests) entries

-- the tests that a script keeps items by are stored
abbrev pub EntriesStored : Type 0
EntriesStored =
    (tests : Known) (d : Dialect) (text : List ℕ) (entries : List Entry)
    → IsRecordScript tests d text entries → AllByRecursion (IsStoredEntry tests) entries

-- the names of the fields of each of its blocks differ
abbrev pub EntriesNamed : Type 0
EntriesNamed =
    (tests : Known) (d : Dialect) (text : List ℕ) (entries : List Entry)
    → IsRecordScript tests d text entries → AllByRecursion HasNames entries

-- the selectors of a script that is UTF-8 are UTF-8
abbrev pub SelectorsAreTexts : Type 0
SelectorsAreTexts = (script text : List ℕ) → IsUtf8 script → IsSelectorText script text → IsUtf8 text

-- ---- values

-- an entry has one value at most on a document
abbrev pub OneEntryValue : Type 0
OneEntryValue =
    (tests : Known) (doc : Document) (e : Entry) (v w : EntryValue)
    → IsEntryValue tests doc e v → IsEntryValue tests doc e w → v ≡ w

-- and one at least where it can be run
abbrev pub AnEntryValue : Type 0
AnEntryValue = (tests : Known) (doc : Document) (e : Entry) → IsOrderedEntry tests e → (v : EntryValue) × IsEntryValue tests doc e v

-- what its task has as its value is written in the entry's form
abbrev pub OutcomeHasForm : Type 0
OutcomeHasForm =
    (tests : Known) (doc : Document) (e : Entry) (task : EntryTask)
    → IsEntryTask tests e task → HasForm e (entry_outcome doc task)

-- ---- entries that are all fields

-- their line is the line of the fields
abbrev pub PlainLine : Type 0
PlainLine =
    (name : List ℕ) (fields : List Field) (values : List FieldValue)
    → line_text name (map entry.Plain fields) (map entry_value.Plain values) ≡ page_text name fields values

-- it holds a refusal where one of the fields' values is one
abbrev pub PlainRefusal : Type 0
PlainRefusal = (values : List FieldValue) → list_any holds_refusal (map entry_value.Plain values) ≡ list_any is_refused values

-- and each has the value of its field
abbrev pub PlainValue : Type 0
PlainValue =
    (tests : Known) (doc : Document) (f : Field) (w : FieldValue)
    → IsValueOver tests doc f w → IsEntryValue tests doc (entry.Plain f) (entry_value.Plain w)
