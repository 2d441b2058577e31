-- Entries that are ready for all pages of a run.
use Rattle.std.specs.Prelude.{List, [], ◌∷◌}
use Rattle.test_registry.specs.Names.{Known}
use Rattle.page_records.specs.declared.script.Entry.{Entry}
use Rattle.page_records.specs.Records.{EntryTask, IsEntryTask}

-- each entry has the task at its place, where these tests are stored
abbrev pub AreTasks : Known → List Entry → List EntryTask → Type 0
AreTasks tests [] [] = Unit {0}
AreTasks tests [] (t ∷ tasks) = ⊥
AreTasks tests (e ∷ entries) [] = ⊥
AreTasks tests (e ∷ entries) (t ∷ tasks) = IsEntryTask tests e t × AreTasks tests entries tasks
