-- The positions that `an+b` names. Selectors Level 3, section 6.6.5.2.
use Rattle.std.specs.Prelude.{◌≡◌, ℕ, ◌+◌, ℤ, pos, ◌+ℤ◌, ◌*ℤ◌, nat_abs, Bool, true, ◌↔◌}
use Rattle.std.specs.List.{list_any, range_with_len}
use Rattle.std.specs.Ordering.{int_eq}

-- for some n of 0 or more, a*n + b is the position
abbrev pub IsNth : ℤ → ℤ → ℕ → Type 0
IsNth a b position = (n : ℕ) × ((a *ℤ pos n) +ℤ b ≡ pos position)

-- The same as a test: where some n serves, one serves that is no more than the position and the size of b together.
unfoldable pub is_nth : ℤ → ℤ → ℕ → Bool
is_nth a b position = list_any (λ n. int_eq ((a *ℤ pos n) +ℤ b) (pos position)) (range_with_len 0 (position + nat_abs b + 1))

-- the test and the words agree
abbrev pub NthLaw : Type 0
NthLaw = (a b : ℤ) (position : ℕ) → (is_nth a b position ≡ true) ↔ IsNth a b position
