-- The test on positions agrees with the words.
use Rattle.std.proofs.Common.{◌≡◌, ℕ, suc, zero, ◌+◌, ◌*◌, ◌<◌, ◌≤◌, arith}
use Rattle.std.proofs.lemmas.Int.{ints}
use Rattle.std.specs.Prelude.{ℤ, pos, negsuc, ◌+ℤ◌, ◌*ℤ◌, nat_abs}
use Rattle.std.specs.Ordering.{int_eq}
use Rattle.std.specs.Cmp.{signed_Decides}
use Rattle.css_meaning.proofs.Finding.{found, finds}
use Rattle.css_meaning.specs.Nth.{IsNth, is_nth, NthLaw}

grows : (k n : ℕ) → n ≤ suc k * n
grows k n = grind arith

-- where some n serves, a small one does
small : (a b : ℤ) (p : ℕ) → IsNth a b p → (n : ℕ) × (n < p + nat_abs b + 1) × ((a *ℤ pos n) +ℤ b ≡ pos p)
small (pos zero) b p (n, h) = (0, omega arith, omega (arith, ints, h))
small (pos (suc k)) (pos m) p (n, h) =
    let e : suc k * n + m ≡ p = omega (arith, ints, h) in (n, omega (arith, grows k n, e), h)
small (pos (suc k)) (negsuc m) p (n, h) =
    let e : suc k * n ≡ p + suc m = omega (arith, ints, h) in (n, omega (arith, grows k n, e), h)
small (negsuc k) (pos m) p (n, h) =
    let e : suc k * n + p ≡ m = omega (arith, ints, h) in (n, omega (arith, grows k n, e), h)
small (negsuc k) (negsuc m) p (n, h) = absurd (omega (arith, ints, h))

pub nth_law : NthLaw
unfolding is_nth
nth_law a b p = (
  λ h. let w = found (λ n. int_eq ((a *ℤ pos n) +ℤ b) (pos p)) 0 (p + nat_abs b + 1) h in (w.0, (signed_Decides _ _).0 w.3),
  λ w.
      let s = small a b p w in
      finds (λ n. int_eq ((a *ℤ pos n) +ℤ b) (pos p)) 0 (p + nat_abs b + 1) s.0 (omega arith) (omega (arith, s.1)) ((signed_Decides _ _).1 s.2),
)
