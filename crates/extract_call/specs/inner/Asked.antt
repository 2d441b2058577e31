-- What is asked of the document of a page, as the definitions of lines say it, where some tests are stored.
use Rattle.std.specs.Prelude.{ℕ, List, All}
use Rattle.std.specs.List.{AllByRecursion}
use Rattle.doc_model.specs.Document.{Document}
use Rattle.test_registry.specs.Names.{Known}
use Rattle.page_records.specs.Lines.{HasNames}
use Rattle.page_records.specs.Records.{EntryAsks}
use Rattle.extract_call.specs.declared.asked.Asked.{Asked}
use Rattle.extract_call.specs.declared.asked.Asked.TheVariants.{Values, Markup}
use Rattle.extract_call.specs.Answers.{Answer}
use Rattle.extract_call.specs.PageLines.{IsValuesLine, IsMarkupLine}
use Rattle.extract_call.specs.inner.Tasks.{AreTasks}

-- the line that a document shows
abbrev pub shown_by : Known → Asked → List ℕ → Document → Answer → Type 0
shown_by tests (Values entries ready) = IsValuesLine tests entries.now
shown_by tests Markup = IsMarkupLine

-- what is ready is ready for these entries, which can be written, and asks no test that is not stored
abbrev pub IsReady : Known → Asked → Type 0
IsReady tests (Values entries ready) = AreTasks tests entries.now ready.now × (All (EntryAsks tests) ready.now × AllByRecursion HasNames entries.now)
IsReady tests Markup = Unit {0}
