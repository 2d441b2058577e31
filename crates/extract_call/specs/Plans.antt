-- The plan of a command, where some tests are stored: the lines that a run of it is to write, by what is told of the pages.
use Rattle.std.specs.Prelude.{◌≡◌, ℕ, ◌⊎◌, true, List, [], ◌∷◌, ◌++◌, Option, IfSome, codes}
use Rattle.text_base.specs.declared.reasons.ScriptFault.{ScriptFault}
use Rattle.text_base.specs.Reasons.{script_word}
use Rattle.test_registry.specs.Names.{Known}
use Rattle.css_selectors.specs.declared.selector.Dialect.{Dialect}
use Rattle.css_selectors.specs.declared.selector.Dialect.TheVariants.{Html}
use Rattle.json_lines.specs.Lines.{reason_text}
use Rattle.page_records.specs.declared.script.Entry.{Entry}
use Rattle.page_records.specs.Scripts.{IsRecordScript, IsRecordFault}
use Rattle.extract_call.specs.Answers.{Answer}
use Rattle.extract_call.specs.Bulk.{bulk_script, bulk_text}
use Rattle.extract_call.specs.CssLines.{IsCssLine}
use Rattle.extract_call.specs.PageLines.{IsPageLine, IsValuesLine, IsMarkupLine, MakesLines}
use Rattle.extract_call.specs.Words.{Command, css, run, bulk, clean}

-- what a run writes: one line without any page, or a line for each page, made of the page's name and bytes
pub data Plan : Type 0 where
  alone : Answer → Plan
  over : (List ℕ → List ℕ → Answer) → List (List ℕ) → Plan

-- the script is refused as a whole: the line has the reason
pub record IsScriptRefused (script : List ℕ) (a : Answer) : Type 0 where
  pub why : ScriptFault
  pub cause : IsRecordFault script why
  pub line : a ≡ record { text = reason_text (codes "script." ++ script_word why); refused = true }

-- the script reads as fields and blocks, and this makes the lines of pages by them
pub record IsByScript (tests : Known) (d : Dialect) (script : List ℕ) (line : List ℕ → List ℕ → Answer) : Type 0 where
  pub entries : List Entry
  pub reads : IsRecordScript tests d script entries
  pub makes : MakesLines (IsValuesLine tests entries) line

-- the script reads as fields and blocks, and this is the line of one page by them
pub record IsOneLine (tests : Known) (d : Dialect) (script name bytes : List ℕ) (a : Answer) : Type 0 where
  pub entries : List Entry
  pub reads : IsRecordScript tests d script entries
  pub line : IsPageLine (IsValuesLine tests entries) name bytes a

-- the line that the bulk script has for the bulk page of so many items, whose name is `bulk`
abbrev pub IsBulkLine : Known → ℕ → Answer → Type 0
IsBulkLine tests n a = IsScriptRefused bulk_script a ⊎ IsOneLine tests Html bulk_script (codes "bulk") (bulk_text n) a

-- the plan of a command
abbrev pub IsPlan : Known → Command → Plan → Type 0
IsPlan tests (css d s) (alone a) = IsCssLine d s a
IsPlan tests (css d s) (over line pages) = ⊥
IsPlan tests (run d s names) (alone a) = IsScriptRefused s a
IsPlan tests (run d s names) (over line pages) = (pages ≡ names) × IsByScript tests d s line
IsPlan tests (bulk n) (alone a) = IsBulkLine tests n a
IsPlan tests (bulk n) (over line pages) = ⊥
IsPlan tests (clean page) (alone a) = ⊥
IsPlan tests (clean page) (over line pages) = (pages ≡ page ∷ []) × MakesLines IsMarkupLine line

-- a fact for the plan of the command, where the words have one of the forms
abbrev pub ForPlan : Known → Option Command → (Plan → Type 0) → Type 0
ForPlan tests command P = IfSome command (λ c. (plan : Plan) → IsPlan tests c plan → P plan)
