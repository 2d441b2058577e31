-- What holds while a page is read.
use Rattle.std.specs.Prelude.{◌≡◌, ℕ, ◌++◌, List, Option, Some, IfSome}
use Rattle.io_edges.specs.Pages.{page}

-- where the names are told, these bytes came from the page and what is left is the rest
abbrev pub IsReading : Option (List (List ℕ × List ℕ)) → List ℕ → Option (List ℕ) → List ℕ → Type 0
IsReading told name left got = IfSome told (λ pages. (rest : List ℕ) × (left ≡ Some rest) × (page pages name ≡ Some (got ++ rest)))
