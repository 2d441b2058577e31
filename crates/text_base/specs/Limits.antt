-- How much is read at most.
use Rattle.std.specs.Prelude.{ℕ}

-- the most bytes of a page
abbrev pub most_page : ℕ
most_page = 4194304
