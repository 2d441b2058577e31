-- Parts of a text by the positions of its characters, which count from 1, after XPath 1.0, section 4.2.
use Rattle.std.specs.Prelude.{ℕ, ◌+◌, Bool, ◌&&◌, cond, List, [], ◌∷◌, ℤ, pos, ◌+ℤ◌, int_le, int_lt, Option, Some, None}

-- of characters of which the first stands at this position, those at the positions that pass the test
abbrev pub at_positions : (ℕ → Bool) → ℕ → List ℕ → List ℕ
at_positions p first [] = []
at_positions p first (c ∷ cs) = cond (p first) (c ∷ at_positions p (first + 1) cs) (at_positions p (first + 1) cs)

-- a position that is not below from and, with a length, below from + len
abbrev pub is_wanted : ℤ → Option ℤ → ℕ → Bool
is_wanted from None p = int_le from (pos p)
is_wanted from (Some len) p = int_le from (pos p) && int_lt (pos p) (from +ℤ len)
