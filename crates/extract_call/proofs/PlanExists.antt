-- Each command whose words are UTF-8 has a plan.
use Rattle.std.proofs.Common.{refl, ℕ, true, List, [], ◌∷◌, ◌++◌, map, codes, inl, inr, ◌⊎◌}
use Rattle.std.specs.List.{AllByRecursion}
use Rattle.std.specs.Str.{IsUtf8}
use Rattle.text_base.specs.declared.reasons.ScriptFault.{ScriptFault}
use Rattle.text_base.specs.Reasons.{script_word}
use Rattle.test_registry.specs.Names.{Known}
use Rattle.css_selectors.specs.declared.selector.Dialect.{Dialect}
use Rattle.css_selectors.specs.declared.selector.Dialect.TheVariants.{Html}
use Rattle.json_lines.specs.Lines.{reason_text}
use Rattle.page_records.specs.declared.script.Entry.{Entry}
use Rattle.page_records.specs.declared.script.Entry.TheVariants as entry
use Rattle.page_records.specs.Scripts.{IsRecordScript, IsRecordFault}
use Rattle.extract_call.specs.Below.{Below}
use Rattle.extract_call.specs.Bulk.{bulk_script, bulk_text}
use Rattle.extract_call.specs.Laws.{SomePlan}
use Rattle.extract_call.specs.Plans.{Plan, alone, over, IsPlan}
use Rattle.extract_call.specs.Words.{Command, css, run, bulk, clean, IsWords}
use Rattle.extract_call.proofs.BulkFields.{bulk_reads}
use Rattle.extract_call.proofs.PageExists.{a_page_line, makes_lines, makes_markup}
use Rattle.extract_call.proofs.Plans.{some_line}
use Rattle.extract_call.proofs.Utf8.{script_word_is, bulk_script_is}

module _ (below : Below) (tests : Known) where
  run_plan : (d : Dialect) (s : List ℕ) (names : List (List ℕ)) → IsUtf8 s → ((entries : List Entry) × IsRecordScript tests d s entries) ⊎ ((fault : ScriptFault) × IsRecordFault s fault)
      → (plan : Plan) × IsPlan tests (run d s names) plan
  run_plan d s names utf8 (inl read) =
      let line = makes_lines below tests read.0 (below.entries_run tests d s read.0 utf8 read.1) in
      (over line.0 names, (refl, record { entries = read.0; reads = read.1; makes = line.1 }))
  run_plan d s names utf8 (inr why) =
      (alone (record { text = reason_text (codes "script." ++ script_word why.0); refused = true }), record { why = why.0; cause = why.1; line = refl })

  plan_of : (words : List (List ℕ)) (command : Command) → AllByRecursion IsUtf8 words → IsWords command words → (plan : Plan) × IsPlan tests command plan
  plan_of words (css d s) utf8 is = let line = some_line below d s in (alone line.0, line.1)
  plan_of words (run d s names) utf8 is = run_plan d s names (script_word_is words d s names utf8 is.0) (below.some_script tests d s)
  plan_of words (bulk n) utf8 is =
      let fields = bulk_reads below tests in
      let entries : List Entry = map entry.Plain fields.0 in
      let line = a_page_line below tests entries (below.entries_run tests Html bulk_script entries bulk_script_is fields.1.1) (codes "bulk") (bulk_text n) in
      (alone line.0, inr (record { entries = entries; reads = fields.1.1; line = line.1 }))
  plan_of words (clean page) utf8 is = let line = makes_markup below in (over line.0 (page ∷ []), (refl, line.1))

pub some_plan : Below → SomePlan
some_plan below tests = plan_of below tests
