-- Which positions are wanted, by how many are below the first and the end.
use Rattle.std.proofs.Common.{◌≡◌, ℕ, ◌+◌, ◌-◌, ◌<◌, true, false, List, take, drop, arith, ℤ, pos, ◌+ℤ◌, ◌<ℤ◌, ◌↔◌}
use Rattle.std.specs.Prelude.{int_le, int_lt, Some, None}
use Rattle.std.proofs.lemmas.Int.{ints}
use Rattle.std.proofs.lemmas.Bool.{and_left, and_right, and_from}
use Rattle.text_base.specs.Positions.{at_positions, is_wanted}
use Rattle.text_base.proofs.CharacterLemmas.{at_from, at_span}

below : (a b : ℤ) → b <ℤ a → int_le a b ≡ false
below a b h = grind (arith, ints)

from_on : (a b : ℤ) → (b <ℤ a → ⊥) → int_le a b ≡ true
from_on a b h = grind (arith, ints)

ahead : (a b : ℤ) → b <ℤ a → int_lt b a ≡ true
ahead a b h = grind (arith, ints)

past : (a b : ℤ) → (b <ℤ a → ⊥) → int_lt b a ≡ false
past a b h = grind (arith, ints)

-- so many positions, from 1 on, are below a
abbrev pub AreBelow : ℕ → ℤ → Type 0
AreBelow n a = (p : ℕ) → p < n ↔ pos (p + 1) <ℤ a

pub wanted_from : (from : ℤ) (lo : ℕ) (cs : List ℕ) → AreBelow lo from → at_positions (is_wanted from None) 1 cs ≡ drop lo cs
wanted_from from lo cs h = at_from (is_wanted from None) lo (λ q l. below from (pos (q + 1)) ((h q).0 l)) (λ q l. from_on from (pos (q + 1)) (λ k. let m = (h q).1 k in omega arith)) 0 lo (omega arith) cs

pub wanted_span : (from len : ℤ) (lo hi : ℕ) (cs : List ℕ) → AreBelow lo from → AreBelow hi (from +ℤ len) → at_positions (is_wanted from (Some len)) 1 cs ≡ take (hi - lo) (drop lo cs)
wanted_span from len lo hi cs h k =
    at_span (is_wanted from (Some len)) lo hi
    (λ q l. and_left _ _ (below from (pos (q + 1)) ((h q).0 l)))
    (λ q l m. and_from _ _ (from_on from (pos (q + 1)) (λ j. let g = (h q).1 j in omega arith)) (ahead (from +ℤ len) (pos (q + 1)) ((k q).0 m)))
    (λ q l. and_right _ _ (past (from +ℤ len) (pos (q + 1)) (λ j. let g = (k q).1 j in omega arith)))
    0 lo (hi - lo) (omega arith) (omega arith) cs
