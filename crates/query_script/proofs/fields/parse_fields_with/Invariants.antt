use Rattle.std.proofs.Common.{take, map}
use Rattle.std.specs.List.{AllByRecursion}
use Rattle.test_registry.specs.View.{known}
use Rattle.query_script.specs.Fields.{AreFields}
use Rattle.query_script.specs.Ordered.{IsOrderedOver, KeepsStored}
use Rattle.query_script.proofs.fields.parse_fields_with.Given as goal

abbrev pub invariant-loop-piece : goal.invariant-loop-piece
invariant-loop-piece g l = record {
  are : AreFields (known l.fn.tests) l.fn.dialect (map (λ p. p.now) (take l.piece-index l.pieces)) l.all.items;
  ordered : AllByRecursion (IsOrderedOver (known l.fn.tests)) l.all.items;
  stored : AllByRecursion (KeepsStored (known l.fn.tests)) l.all.items;
}
