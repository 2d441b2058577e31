use Rattle.std.proofs.Common.{◌≡◌, drop}
use Rattle.io_edges.specs.Pages.{page}
use Rattle.io_edges.specs.Files.{told_of}
use Rattle.io_edges.proofs.shelf.place_of.Given as goal

abbrev pub invariant-loop-i : goal.invariant-loop-i
invariant-loop-i l = page (told_of (drop l.i l.files)) l.name ≡ page (told_of l.files) l.name
