-- The positions of `an+b` by how many siblings stand before the element, or after it. Selectors Level 3, section 6.6.5.
use Rattle.std.specs.Prelude.{ℕ, zero, suc, nat_lt, if◌then◌else◌, List, [], ◌∷◌, ◌++◌, ℤ, pos, negsuc, ◌-ℤ◌, unsigned_abs}
use Rattle.std.specs.Int.{int_rem_euclid}

-- what is asked of the number of siblings
pub data Condition : Type 0 where
  never : Condition
  exactly : ℕ → Condition
  at_least : ℕ → Condition
  at_most : ℕ → Condition
  -- by the first number it has the second as remainder
  every : ℕ → ℕ → Condition

-- the remainder, from 0, of the whole number by n
abbrev pub remainder : ℤ → ℕ → ℕ
remainder z n = unsigned_abs (int_rem_euclid z (pos n))

-- every n-th, from the position b; each one where n is 1
abbrev pub every_from : ℕ → ℤ → List Condition
every_from n b = if nat_lt 1 n then every n (remainder (b -ℤ pos 1) n) ∷ [] else []

-- from the position b on, which is no condition where b is at most 1
abbrev pub from_position : ℤ → List Condition
from_position (pos zero) = []
from_position (pos (suc zero)) = []
from_position (pos (suc (suc n))) = at_least (suc n) ∷ []
from_position (negsuc n) = []

-- the position of an element is one more than the number of siblings
abbrev pub conditions : ℤ → ℤ → List Condition
conditions (pos zero) (pos zero) = never ∷ []
conditions (pos zero) (pos (suc n)) = exactly n ∷ []
conditions (pos zero) (negsuc n) = never ∷ []
conditions (pos (suc a)) b = from_position b ++ every_from (suc a) b
conditions (negsuc a) (pos zero) = never ∷ []
conditions (negsuc a) (pos (suc n)) = at_most n ∷ every_from (suc a) (pos (suc n))
conditions (negsuc a) (negsuc n) = never ∷ []
