use Rattle.std.proofs.Common.{◌≡◌, ℕ, take}
use Rattle.doc_model.specs.RowLists as spec
use Rattle.doc_model.proofs.row_lists.collect.Given as goal

abbrev pub invariant-loop-list : goal.invariant-loop-list
invariant-loop-list l = (n : ℕ) → spec.EachIsRun n l.lists → l.found.items ≡ spec.in_any n (take l.list-index l.lists)
