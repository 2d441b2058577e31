use Rattle.std.proofs.Common.{◌≤◌, map}
use Rattle.std.specs.List.{slice_range}
use Rattle.text_base.specs.Text.{IsPlace}
use Rattle.page_records.proofs.CutLemmas.{Cutting}
use Rattle.page_records.proofs.braces.block_pieces.Given as goal

abbrev pub invariant-loop-at : goal.invariant-loop-at
invariant-loop-at l = record {
  cutting : Cutting l.text l.at (map (λ p. p.now) l.done.items) (slice_range l.text l.start l.at) l.begun l.quote;
  order : l.start ≤ l.at;
  place : IsPlace l.text l.start;
}
