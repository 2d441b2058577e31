-- What pages tell: a finite map from names to bytes, as a list in which the first of a name counts.
use Rattle.std.specs.Prelude.{◌≡◌, ℕ, ◌<◌, ◌++◌, List, [], ◌∷◌, Option, Some, None, if◌then◌else◌, IfSome, MatchOption, length}
use Rattle.std.specs.Str.{bytes_eq}
pub use Rattle.text_base.specs.Limits.{most_page}

-- the bytes of the page of this name
abbrev pub page : List (List ℕ × List ℕ) → List ℕ → Option (List ℕ)
page [] name = None
page (p ∷ pages) name = if bytes_eq p.0 name then Some p.1 else page pages name

-- the names are told, and this one is not there
abbrev pub Lacks : Option (List (List ℕ × List ℕ)) → List ℕ → Type 0
Lacks None name = ⊥
Lacks (Some pages) name = page pages name ≡ None

-- the names are told, and this one has more bytes than so many
abbrev pub Exceeds : Option (List (List ℕ × List ℕ)) → List ℕ → ℕ → Type 0
Exceeds None name limit = ⊥
Exceeds (Some pages) name limit = (bytes : List ℕ) × (page pages name ≡ Some bytes) × (limit < length bytes)

-- where the names are told, this one is there and its bytes are left
abbrev pub Opens : Option (List (List ℕ × List ℕ)) → List ℕ → Option (List ℕ) → Type 0
Opens told name left = IfSome told (λ pages. (bytes : List ℕ) × (page pages name ≡ Some bytes) × (left ≡ Some bytes))

-- where the names are told, this one has exactly these bytes
abbrev pub Has : Option (List (List ℕ × List ℕ)) → List ℕ → List ℕ → Type 0
Has told name bytes = IfSome told (λ pages. page pages name ≡ Some bytes)

-- where the names are told, this one has more bytes than the limit
abbrev pub IsTooLong : Option (List (List ℕ × List ℕ)) → List ℕ → ℕ → Type 0
IsTooLong told name limit = IfSome told (λ pages. (bytes : List ℕ) × (page pages name ≡ Some bytes) × (limit < length bytes))

-- the bytes are known and none are left, or none are known
abbrev pub IsDone : Option (List ℕ) → Type 0
IsDone left = IfSome left (λ bytes. bytes ≡ [])

-- where both are known, the bytes left are an end of the page's bytes, and none where the page is not there
abbrev pub LeavesEnd : Option (List (List ℕ × List ℕ)) → List ℕ → Option (List ℕ) → Type 0
LeavesEnd told name left = IfSome left (λ rest. IfSome told (λ pages. MatchOption (page pages name) (rest ≡ []) (λ bytes. (got : List ℕ) × (bytes ≡ got ++ rest))))
