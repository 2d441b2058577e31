-- Lists by their last elements.
use Rattle.std.proofs.Common.{◌≡◌, ℕ, suc, ◌-◌, ◌<◌, List, [], ◌∷◌, ◌++◌, length, take, get_or, refl, ap, arith}

-- a list by its last element
by_place : {A : Type 0} (d : A) (xs : List A) (k : ℕ) → length xs ≡ suc k → xs ≡ take k xs ++ get_or xs k d ∷ []
by_place d [] k e = absurd (omega arith)
by_place d (x ∷ []) k e = let z : k ≡ 0 = omega arith in rw z refl
by_place d (x ∷ y ∷ xs) k e = rw (let z : k ≡ suc (k - 1) = omega arith in z) (ap (λ t. x ∷ t) (by_place d (y ∷ xs) (k - 1) (omega arith)))

pub by_last : {A : Type 0} (d : A) (xs : List A) → 0 < length xs → xs ≡ take (length xs - 1) xs ++ get_or xs (length xs - 1) d ∷ []
by_last d xs l = by_place d xs (length xs - 1) (omega arith)
