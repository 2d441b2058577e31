-- What pages in memory tell, how they were made, and how many calls they had.
use Rattle.std.specs.Prelude.{◌≡◌, ℕ, List, Option, Some}
use Rattle.io_edges.specs.Counts.{next_count}
use Rattle.io_edges.specs.Files.{told_of}
use Rattle.io_edges.specs.Shelf.{left_in}
use Rattle.io_edges.specs.declared.mem_pages.MemPages.{MemPages}

-- the names with their bytes
abbrev pub told_by : MemPages → Option (List (List ℕ × List ℕ))
told_by m = Some (told_of m.shelf.files)

-- the bytes that the begun page still has
abbrev pub left_of : MemPages → Option (List ℕ)
left_of m = Some (left_in m.shelf)

-- how many calls were counted as faults
abbrev pub faults_of : MemPages → ℕ
faults_of m = m.faults

-- how many pages were begun
abbrev pub begun_of : MemPages → ℕ
begun_of m = m.begun

-- the most bytes that a read gives
abbrev pub most_of : MemPages → ℕ
most_of m = m.most

-- the numbers of the calls that fail
abbrev pub fails_of : MemPages → List ℕ
fails_of m = m.fails

-- how many calls were made
abbrev pub calls_of : MemPages → ℕ
calls_of m = m.calls

-- the number of the next call, from 1
abbrev pub number_of : MemPages → ℕ
number_of m = next_count (calls_of m)

-- one call more was made, and what the pages were made from is the same
pub record CallsOnce (old new : MemPages) : Type 0 where
  pub calls : calls_of new ≡ number_of old
  pub most : most_of new ≡ most_of old
  pub fails : fails_of new ≡ fails_of old
