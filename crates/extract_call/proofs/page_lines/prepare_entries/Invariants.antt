use Rattle.std.proofs.Common.{take}
use Rattle.std.specs.Prelude.{All}
use Rattle.test_registry.specs.View.{known}
use Rattle.page_records.specs.Records.{EntryAsks}
use Rattle.extract_call.specs.inner.Tasks.{AreTasks}
use Rattle.extract_call.proofs.page_lines.prepare_entries.Given as goal

abbrev pub invariant-loop-entry : goal.invariant-loop-entry
invariant-loop-entry g l = record {
  tasks : AreTasks (known l.tests) (take l.entry-index l.entries) l.ready.items;
  asks : All (EntryAsks (known l.tests)) l.ready.items;
}
