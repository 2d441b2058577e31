use Rattle.std.proofs.Common.{◌≡◌, ◌-◌, length}
use Rattle.io_edges.specs.Counts.{Grows}
use Rattle.io_edges.specs.Reading.{IsReading}
use Rattle.io_edges.proofs.read.read_page.Given as goal

abbrev pub invariant-loop-buffer : goal.invariant-loop-buffer
invariant-loop-buffer g l = record {
  told : g.P.Pages.told l.pages ≡ g.P.Pages.told l.fn.pages;
  begun : Grows (g.P.Pages.begun l.fn.pages) 1 (g.P.Pages.begun l.pages);
  uncounted : g.P.Pages.faults l.pages ≡ g.P.Pages.faults l.fn.pages;
  reading : IsReading (g.P.Pages.told l.fn.pages) l.name (g.P.Pages.left l.pages) l.bytes.items;
}

abbrev pub decreases-loop-buffer : goal.decreases-loop-buffer
decreases-loop-buffer g l = 4194305 - length l.bytes.items
