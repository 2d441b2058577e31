-- Lists that are filtered.
use Rattle.std.proofs.Common.{◌≡◌, Bool, true, false, cond, List, [], ◌∷◌, refl, ap}
use Rattle.std.specs.Prelude.{◌&&◌, filter}

-- twice is once by both tests
pub filter_twice : {A : Type 0} (p q : A → Bool) (xs : List A) → filter q (filter p xs) ≡ filter (λ y. p y && q y) xs
filter_twice p q [] = refl
filter_twice p q (x ∷ xs) = at (p x) (filter_twice p q xs)
  where
    at : (b : Bool) → filter q (filter p xs) ≡ filter (λ y. p y && q y) xs
        → filter q (cond b (x ∷ filter p xs) (filter p xs)) ≡ cond (b && q x) (x ∷ filter (λ y. p y && q y) xs) (filter (λ y. p y && q y) xs)
    at true h = ap (λ ys. cond (q x) (x ∷ ys) ys) h
    at false h = h
