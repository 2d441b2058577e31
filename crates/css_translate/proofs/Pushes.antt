-- Texts that grow at their end.
use Rattle.std.proofs.Common.{◌≡◌, ◌∙◌, ap, ℕ, List, ◌++◌, append_assoc, Ok, Err, Result, OnOk}

-- two pieces, the second pushed last
pub two : {V E : Type 0} (r : Result V E) (was x mid y now : List ℕ) → mid ≡ was ++ x → OnOk r (now ≡ mid ++ y) → OnOk r (now ≡ was ++ (x ++ y))
two (Ok v) was x mid y now h k = k ∙ ap (λ t. t ++ y) h ∙ append_assoc was x y
two (Err e) was x mid y now h k = k

-- three
pub three : {V E : Type 0} (r : Result V E) (was x mid y mid' z now : List ℕ) → mid ≡ was ++ x → mid' ≡ mid ++ y → OnOk r (now ≡ mid' ++ z) → OnOk r (now ≡ was ++ (x ++ (y ++ z)))
three (Ok v) was x mid y mid' z now h g k = k ∙ ap (λ t. t ++ z) (g ∙ ap (λ t. t ++ y) h ∙ append_assoc was x y) ∙ append_assoc was (x ++ y) z ∙ ap (λ t. was ++ t) (append_assoc x y z)
three (Err e) was x mid y mid' z now h g k = k

-- the same piece in other words
pub same_piece : {V E : Type 0} (r : Result V E) (was x y now : List ℕ) → x ≡ y → OnOk r (now ≡ was ++ x) → OnOk r (now ≡ was ++ y)
same_piece (Ok v) was x y now h k = k ∙ ap (λ t. was ++ t) h
same_piece (Err e) was x y now h k = k
