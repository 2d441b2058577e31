-- Filters of the rows, as far as a walk has come.
use Rattle.std.proofs.Common.{◌≡◌, ℕ, zero, suc, ◌+◌, ◌-◌, ◌<◌, ◌≤◌, List, [], ◌∷◌, ◌++◌, Bool, true, false, cond, refl, sym, ◌∙◌, ap, arith}
use Rattle.std.specs.Prelude.{filter, reverse}
use Rattle.std.specs.List.{range_with_len}
use Rattle.std.proofs.lemmas.List.Elements.{filter-append}
use Rattle.std.proofs.lemmas.List.{reverse-append, append-nil}
use Rattle.doc_model.specs.RowLists.{IsFront}
use Rattle.doc_model.proofs.Runs.{range_split}

pub none_in : (p : ℕ → Bool) (n low : ℕ) → ((z : ℕ) → low ≤ z → z < low + n → p z ≡ false) → filter p (range_with_len low n) ≡ []
none_in p zero low h = refl
none_in p (suc n) low h =
    ap (λ b. cond b (low ∷ filter p (range_with_len (low + 1) n)) (filter p (range_with_len (low + 1) n))) (h low (omega arith) (omega arith))
    ∙ none_in p n (low + 1) (λ z l k. h z (omega (arith, l)) (omega (arith, k)))

pub two_parts : (p : ℕ → Bool) (m k low : ℕ) → filter p (range_with_len low (m + k)) ≡ filter p (range_with_len low m) ++ filter p (range_with_len (low + m) k)
two_parts p m k low = ap (filter p) (range_split m k low) ∙ filter-append p (range_with_len low m) (range_with_len (low + m) k)

-- the rows from a on and before b
pub from_to : (p : ℕ → Bool) (a b n : ℕ) → a ≤ b → b ≤ n → filter p (range_with_len a (n - a)) ≡ filter p (range_with_len a (b - a)) ++ filter p (range_with_len b (n - b))
from_to p a b n h k =
    let all : n - a ≡ (b - a) + (n - b) = omega arith in
    let here : a + (b - a) ≡ b = omega arith in
    ap (λ m. filter p (range_with_len a m)) all ∙ two_parts p (b - a) (n - b) a ∙ ap (λ m. filter p (range_with_len a (b - a)) ++ filter p (range_with_len m (n - b))) here

pub upto : (p : ℕ → Bool) (b n : ℕ) → b ≤ n → filter p (range_with_len 0 n) ≡ filter p (range_with_len 0 b) ++ filter p (range_with_len b (n - b))
upto p b n h =
    let all : n ≡ b + (n - b) = omega arith in
    let here : 0 + b ≡ b = omega arith in
    ap (λ m. filter p (range_with_len 0 m)) all ∙ two_parts p b (n - b) 0 ∙ ap (λ m. filter p (range_with_len 0 b) ++ filter p (range_with_len m (n - b))) here

single_at : (y : ℕ) (rest : List ℕ) (b : Bool) → rest ≡ [] → cond b (y ∷ rest) rest ≡ cond b (y ∷ []) []
single_at y rest b h = ap (λ r. cond b (y ∷ r) r) h

-- of the rows from y on and before r only y is to be looked at
pub single : (p : ℕ → Bool) (y r : ℕ) → y < r → ((z : ℕ) → y < z → z < r → p z ≡ false) → filter p (range_with_len y (r - y)) ≡ cond (p y) (y ∷ []) []
single p y r h none =
    let all : r - y ≡ suc (r - y - 1) = omega arith in
    ap (λ m. filter p (range_with_len y m)) all
    ∙ single_at y (filter p (range_with_len (y + 1) (r - y - 1))) (p y) (none_in p (r - y - 1) (y + 1) (λ z l k. none z (omega arith) (omega arith)))

pub upto_more : (p : ℕ → Bool) (y r : ℕ) → y < r → ((z : ℕ) → y < z → z < r → p z ≡ false) → filter p (range_with_len 0 r) ≡ filter p (range_with_len 0 y) ++ cond (p y) (y ∷ []) []
upto_more p y r h none = upto p y r (omega arith) ∙ ap (λ v. filter p (range_with_len 0 y) ++ v) (single p y r h none)

pub upto_none : (p : ℕ → Bool) (b : ℕ) → ((z : ℕ) → z < b → p z ≡ false) → filter p (range_with_len 0 b) ≡ []
upto_none p b none = none_in p b 0 (λ z l k. none z (omega arith))

pub upto_all : (p : ℕ → Bool) (b n : ℕ) → b ≤ n → ((z : ℕ) → b ≤ z → z < n → p z ≡ false) → filter p (range_with_len 0 b) ≡ filter p (range_with_len 0 n)
upto_all p b n h none =
    sym (append-nil _) ∙ ap (λ v. filter p (range_with_len 0 b) ++ v) (sym (none_in p (n - b) b (λ z l k. none z l (omega arith)))) ∙ sym (upto p b n h)

pub upto_front : (p : ℕ → Bool) (b n : ℕ) → b ≤ n → IsFront (filter p (range_with_len 0 b)) (filter p (range_with_len 0 n))
upto_front p b n h = (filter p (range_with_len b (n - b)), upto p b n h)

-- ---- against document order

reverse_single : (y : ℕ) (b : Bool) → reverse (cond b (y ∷ []) []) ≡ cond b (y ∷ []) []
reverse_single y true = refl
reverse_single y false = refl

pub down_more : (p : ℕ → Bool) (q y n : ℕ) → q < y → y ≤ n → ((z : ℕ) → q < z → z < y → p z ≡ false)
    → reverse (filter p (range_with_len q (n - q))) ≡ reverse (filter p (range_with_len y (n - y))) ++ cond (p q) (q ∷ []) []
down_more p q y n h k none =
    ap reverse (from_to p q y n (omega arith) k) ∙ reverse-append (filter p (range_with_len q (y - q))) (filter p (range_with_len y (n - y)))
    ∙ ap (λ v. reverse (filter p (range_with_len y (n - y))) ++ v) (ap reverse (single p q y h none) ∙ reverse_single q (p q))

pub down_none : (p : ℕ → Bool) (x n : ℕ) → x < n → ((z : ℕ) → x < z → z < n → p z ≡ false) → reverse (filter p (range_with_len x (n - x))) ≡ cond (p x) (x ∷ []) []
down_none p x n h none = ap reverse (single p x n h none) ∙ reverse_single x (p x)

pub down_front : (p : ℕ → Bool) (b n : ℕ) → b ≤ n → IsFront (reverse (filter p (range_with_len b (n - b)))) (reverse (filter p (range_with_len 0 n)))
down_front p b n h =
    (reverse (filter p (range_with_len 0 b)), ap reverse (upto p b n h) ∙ reverse-append (filter p (range_with_len 0 b)) (filter p (range_with_len b (n - b))))
