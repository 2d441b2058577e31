-- The conditions of positions by the signs of their numbers.
use Rattle.std.proofs.Common.{◌≡◌, refl, ℕ, zero, suc, ◌<◌, ◌≤◌, true, false, List, [], ◌∷◌, ap, ◌∙◌, arith, cond, append-nil}
use Rattle.std.specs.List.{flat_map}
use Rattle.std.specs.Prelude.{ℤ, pos, negsuc, ◌-ℤ◌, ◌<ℤ◌, ◌≤ℤ◌, unsigned_abs, nat_lt}
use Rattle.std.proofs.lemmas.Bool.Decides.{nat_tests}
use Rattle.std.proofs.lemmas.Int.{ints}
use Rattle.css_printed.specs.Conditions.{Condition, never, exactly, at_least, every, remainder, every_from, from_position, conditions}

abbrev Text : Type 0
Text = List ℕ

before : (n : ℕ) → n ≡ unsigned_abs (pos (suc n) -ℤ pos 1)
before n = omega (arith, ints)

one : (f : Condition → Text) (x : Condition) (cs : List Condition) → cs ≡ x ∷ [] → flat_map f cs ≡ f x
one f x cs e = ap (flat_map f) e ∙ append-nil (f x)

second : (n : ℕ) → 1 < n → nat_lt 1 n ≡ true
second n h = grind (arith, nat_tests)

first : (n : ℕ) → n ≤ 1 → nat_lt 1 n ≡ false
first n h = grind (arith, nat_tests)

pub every_second : (f : Condition → Text) (n : ℕ) (b : ℤ) → 1 < n → flat_map f (every_from n b) ≡ f (every n (remainder (b -ℤ pos 1) n))
every_second f n b h = one f (every n (remainder (b -ℤ pos 1) n)) (every_from n b) (ap (λ t. cond t (every n (remainder (b -ℤ pos 1) n) ∷ []) []) (second n h))

pub every_one : (f : Condition → Text) (n : ℕ) (b : ℤ) → n ≤ 1 → flat_map f (every_from n b) ≡ []
every_one f n b h = ap (λ t. flat_map f (cond t (every n (remainder (b -ℤ pos 1) n) ∷ []) [])) (first n h)

pub from_second : (f : Condition → Text) (b : ℤ) → pos 1 <ℤ b → flat_map f (from_position b) ≡ f (at_least (unsigned_abs (b -ℤ pos 1)))
from_second f (pos zero) h = absurd (omega (arith, ints))
from_second f (pos (suc zero)) h = absurd (omega (arith, ints))
from_second f (pos (suc (suc n))) h = append-nil (f (at_least (suc n))) ∙ ap (λ k. f (at_least k)) (before (suc n))
from_second f (negsuc n) h = absurd (omega (arith, ints))

pub from_first : (f : Condition → Text) (b : ℤ) → b ≤ℤ pos 1 → flat_map f (from_position b) ≡ []
from_first f (pos zero) h = refl
from_first f (pos (suc zero)) h = refl
from_first f (pos (suc (suc n))) h = absurd (omega (arith, ints))
from_first f (negsuc n) h = refl

pub one_position : (f : Condition → Text) (b : ℤ) → pos 0 <ℤ b → flat_map f (conditions (pos 0) b) ≡ f (exactly (unsigned_abs (b -ℤ pos 1)))
one_position f (pos zero) h = absurd (omega (arith, ints))
one_position f (pos (suc n)) h = append-nil (f (exactly n)) ∙ ap (λ k. f (exactly k)) (before n)
one_position f (negsuc n) h = absurd (omega (arith, ints))

pub no_position : (f : Condition → Text) (b : ℤ) → b ≤ℤ pos 0 → flat_map f (conditions (pos 0) b) ≡ f never
no_position f (pos zero) h = append-nil (f never)
no_position f (pos (suc n)) h = absurd (omega (arith, ints))
no_position f (negsuc n) h = append-nil (f never)
