use Rattle.std.proofs.Common.{◌≤◌, map}
use Rattle.std.specs.List.{slice_range}
use Rattle.text_base.specs.Text.{IsPlace}
use Rattle.query_script.specs.inner.Reader.{cuts_of}
use Rattle.query_script.proofs.CutLemmas.{Cutting}
use Rattle.query_script.proofs.cuts.pieces.Given as goal

abbrev pub invariant-loop-at : goal.invariant-loop-at
invariant-loop-at l = record {
  cutting : Cutting (cuts_of l.cut) l.text l.at (map (λ p. p.now) l.done.items) (slice_range l.text l.start l.at) l.quote;
  order : l.start ≤ l.at;
  place : IsPlace l.text l.start;
}
