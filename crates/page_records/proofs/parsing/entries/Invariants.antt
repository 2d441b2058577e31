use Rattle.std.proofs.Common.{take, map}
use Rattle.std.specs.List.{AllByRecursion}
use Rattle.test_registry.specs.View.{known}
use Rattle.page_records.specs.Ordered.{IsOrderedEntry, IsStoredEntry}
use Rattle.page_records.specs.Scripts.{AreEntries}
use Rattle.page_records.proofs.parsing.entries.Given as goal

abbrev pub invariant-loop-piece : goal.invariant-loop-piece
invariant-loop-piece g l = record {
  are : AreEntries (known l.fn.tests) l.fn.dialect (map (λ p. p.now) (take l.piece-index l.pieces)) l.all.items;
  ordered : AllByRecursion (IsOrderedEntry (known l.fn.tests)) l.all.items;
  stored : AllByRecursion (IsStoredEntry (known l.fn.tests)) l.all.items;
}
