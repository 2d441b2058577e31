use Rattle.page_records.proofs.LookLemmas.{Ending}
use Rattle.page_records.proofs.braces.last_close.Given as goal

abbrev pub invariant-loop-at : goal.invariant-loop-at
invariant-loop-at l = Ending l.text l.at l.end l.quote
