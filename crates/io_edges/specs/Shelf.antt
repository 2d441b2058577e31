-- What is left of the file that a shelf has begun.
use Rattle.std.specs.Prelude.{ℕ, List, drop}
use Rattle.io_edges.specs.Files.{bytes_at}
use Rattle.io_edges.specs.declared.shelf.Shelf.{Shelf}

abbrev pub left_in : Shelf → List ℕ
left_in s = drop s.at (bytes_at s.files s.file)
