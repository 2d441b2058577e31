-- What sure pages tell, and how they were made.
use Rattle.std.specs.Prelude.{ℕ, List, Option, Some}
use Rattle.io_edges.specs.Files.{told_of}
use Rattle.io_edges.specs.Shelf.{left_in}
use Rattle.io_edges.specs.declared.sure_pages.SurePages.{SurePages}

-- the names with their bytes
abbrev pub told_by : SurePages → Option (List (List ℕ × List ℕ))
told_by m = Some (told_of m.shelf.files)

-- the bytes that the begun page still has
abbrev pub left_of : SurePages → Option (List ℕ)
left_of m = Some (left_in m.shelf)

-- no call is counted as a fault
abbrev pub faults_of : SurePages → ℕ
faults_of m = 0

-- how many pages were begun
abbrev pub begun_of : SurePages → ℕ
begun_of m = m.begun

-- the most bytes that a read gives
abbrev pub most_of : SurePages → ℕ
most_of m = m.most
