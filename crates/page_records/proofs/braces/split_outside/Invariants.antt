use Rattle.page_records.specs.inner.Places.{test_of}
use Rattle.page_records.proofs.LookLemmas.{Looking}
use Rattle.page_records.proofs.braces.split_outside.Given as goal

abbrev pub invariant-loop-at : goal.invariant-loop-at
invariant-loop-at l = Looking (test_of l.brace) l.text l.at l.quote
