-- Laws of the definitions.
use Rattle.std.specs.Prelude.{◌≡◌, ℕ, List, ◌⊎◌, ◌↔◌, Some, true, false, map, ◌++◌, codes}
use Rattle.std.specs.List.{AllByRecursion}
use Rattle.std.specs.Str.{IsUtf8}
use Rattle.text_base.specs.declared.reasons.ScriptFault.{ScriptFault}
use Rattle.text_base.specs.declared.reasons.SelectorFault.{SelectorFault}
use Rattle.text_base.specs.Reasons.{script_word}
use Rattle.test_registry.specs.Names.{Known}
use Rattle.css_selectors.specs.declared.selector.Dialect.{Dialect}
use Rattle.css_selectors.specs.declared.selector.Dialect.TheVariants.{Html}
use Rattle.css_selectors.specs.declared.selector.SelectorList.{SelectorList}
use Rattle.css_parser.specs.Selecting.{Accepts}
use Rattle.query_script.specs.declared.script.Field.{Field}
use Rattle.query_script.specs.Fields.{IsScriptOver, IsScriptFault}
use Rattle.query_script.specs.Queries.{IsCssFault}
use Rattle.json_lines.specs.Lines.{reason_text}
use Rattle.page_records.specs.declared.script.Entry.TheVariants as entry
use Rattle.page_records.specs.Braces.{opens, stands}
use Rattle.page_records.specs.Scripts.{IsRecordScript}
use Rattle.extract_call.specs.Answers.{Answer}
use Rattle.extract_call.specs.Bulk.{bulk_script, bulk_text}
use Rattle.extract_call.specs.FieldLines.{IsFieldsLine}
use Rattle.extract_call.specs.PageLines.{IsPageLine, MakesLines}
use Rattle.extract_call.specs.Plans.{Plan, alone, over, IsPlan}
use Rattle.extract_call.specs.Words.{Command, run, bulk, IsWords, read}

-- A text is accepted as at most one list, is refused for at most one reason, and is not both accepted and refused but for the length of its XPath.
pub record OneReading (d : Dialect) (text : List ℕ) : Type 0 where
  pub one_list : (a b : SelectorList) → Accepts text a → Accepts text b → a ≡ b
  pub one_reason : (a b : SelectorFault) → IsCssFault d text a → IsCssFault d text b → a ≡ b
  pub one_or_other : (a : SelectorList) → Accepts text a → (why : SelectorFault) → IsCssFault d text why → why ≡ SelectorFault.XPathLong
  pub some : ((a : SelectorList) × Accepts text a) ⊎ ((why : SelectorFault) × IsCssFault d text why)

abbrev pub ReadingLaw : Type 0
ReadingLaw = (d : Dialect) (text : List ℕ) → OneReading d text

-- Each command has one plan at most.
abbrev pub OnePlan : Type 0
OnePlan = (tests : Known) (command : Command) (plan other : Plan) → IsPlan tests command plan → IsPlan tests command other → plan ≡ other

-- And each command whose words are UTF-8 has one.
abbrev pub SomePlan : Type 0
SomePlan = (tests : Known) (words : List (List ℕ)) (command : Command) → AllByRecursion IsUtf8 words → IsWords command words → (plan : Plan) × IsPlan tests command plan

-- The words have the form of a command exactly where they are that command's words.
abbrev pub WordsLaw : Type 0
WordsLaw = (words : List (List ℕ)) (command : Command) → (read words ≡ Some command) ↔ IsWords command words

-- The script of the bulk page reads as fields, and these are its entries.
abbrev pub BulkLaw : Type 0
BulkLaw = (tests : Known) → (fields : List Field) × (IsScriptOver tests Html bulk_script fields × IsRecordScript tests Html bulk_script (map entry.Plain fields))

-- ---- Scripts where no `{` stands outside quotes, so that no block is one of their pieces: their lines are those of their fields.

-- Where such a script reads as fields, the plan of `run` is to write what its fields make of each page.
abbrev pub PlainLines : Type 0
PlainLines =
    (tests : Known) (d : Dialect) (script : List ℕ) (names : List (List ℕ)) (fields : List Field) (line : List ℕ → List ℕ → Answer)
    → stands opens 0 script ≡ false → IsScriptOver tests d script fields
    → IsPlan tests (run d script names) (over line names) ↔ MakesLines (IsFieldsLine tests fields) line

-- Where it is refused as a whole, the plan is to write that reason.
abbrev pub PlainRefusals : Type 0
PlainRefusals =
    (tests : Known) (d : Dialect) (script : List ℕ) (names : List (List ℕ)) (why : ScriptFault) (a : Answer)
    → stands opens 0 script ≡ false → IsScriptFault script why
    → IsPlan tests (run d script names) (alone a) ↔ (a ≡ record { text = reason_text (codes "script." ++ script_word why); refused = true })

-- And the plan of `bulk` is to write the line of its page by the fields of its script.
abbrev pub PlainBulk : Type 0
PlainBulk =
    (tests : Known) (n : ℕ) (fields : List Field) (a : Answer) → IsScriptOver tests Html bulk_script fields
    → IsPlan tests (bulk n) (alone a) ↔ IsPageLine (IsFieldsLine tests fields) (codes "bulk") (bulk_text n) a
