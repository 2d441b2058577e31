use Rattle.std.proofs.Common.{◌≤◌, drop, map, length}
use Rattle.page_records.specs.Blocks.{Differ}
use Rattle.page_records.proofs.bodies.differ.Given as goal

abbrev pub invariant-loop-at : goal.invariant-loop-at
invariant-loop-at l = record {
  differ : Differ (map (λ f. f.name) (drop l.at l.fields));
  order : l.at ≤ length l.fields;
}

abbrev pub decreases-loop-at : goal.decreases-loop-at
decreases-loop-at l = l.at
