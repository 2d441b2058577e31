-- How two ascending lists are made one.
use Rattle.std.specs.Prelude.{ℕ, ◌+◌, Bool, true, false, nat_lt, List, ◌++◌, slice_index_or}
use Rattle.doc_model.specs.RowLists.{Run}

-- the smaller of the rows at two places, and the places after it
pub record Taken : Type 0 where
  pub row : ℕ
  pub i : ℕ
  pub j : ℕ

abbrev pub taken_by : Bool → Bool → ℕ → ℕ → ℕ → ℕ → Taken
taken_by true greater x y i j = record { row = x; i = i + 1; j = j }
taken_by false true x y i j = record { row = y; i = i; j = j + 1 }
taken_by false false x y i j = record { row = x; i = i + 1; j = j + 1 }

abbrev pub taken : List ℕ → List ℕ → ℕ → ℕ → Taken
taken a b i j =
    let x = slice_index_or a i 0 in
    let y = slice_index_or b j 0 in
    taken_by (nat_lt x y) (nat_lt y x) x y i j

-- the second list may stand after the first
abbrev pub Follows : List ℕ → List ℕ → Type 0
Follows a b = (n : ℕ) → Run 0 n a → Run 0 n b → Run 0 n (a ++ b)
