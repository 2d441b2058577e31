use Rattle.std.proofs.Common.{◌≡◌, ℕ, List, map, string_bytes}
use Rattle.std.specs.Prelude.{IfSome}
use Rattle.io_edges.specs.Counts.{Grows}
use Rattle.test_registry.specs.View.{known}
use Rattle.extract_call.specs.Answers.{Answer}
use Rattle.extract_call.specs.PageLines.{MakesLines}
use Rattle.extract_call.specs.inner.Asked.{shown_by}
use Rattle.extract_call.proofs.Walk.{SoFar}
use Rattle.extract_call.proofs.pages.write_each.Given as goal

abbrev pub invariant-loop-name : goal.invariant-loop-name
invariant-loop-name g l = record {
  told : g.P.Pages.told l.pages ≡ g.P.Pages.told l.fn.pages;
  begun : Grows (g.P.Pages.begun l.fn.pages) l.name-index (g.P.Pages.begun l.pages);
  pages_uncounted : g.P.Pages.faults l.pages ≡ g.P.Pages.faults l.fn.pages;
  sink_uncounted : g.W.Sink.faults l.sink ≡ g.W.Sink.faults l.fn.sink;
  idle : l.name-index ≡ 0 → l.pages ≡ l.fn.pages;
  written : (line : List ℕ → List ℕ → Answer) → MakesLines (shown_by (known l.tests) l.asked) line → IfSome (g.P.Pages.told l.fn.pages) (λ told. SoFar line told (map string_bytes l.names) l.name-index (g.W.Sink.taken l.fn.sink) (g.W.Sink.taken l.sink) l.refused);
}
