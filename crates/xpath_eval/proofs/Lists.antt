-- Members, bounds and order of lists of rows.
use Rattle.std.proofs.Common.{◌≡◌, refl, sym, ◌∙◌, ap, subst, ℕ, suc, ◌+◌, ◌<◌, ◌≤◌, Bool, true, false, ◌||◌, eqb, cond, List, [], ◌∷◌, ◌++◌, length, take, drop, get_or, arith, inl, inr, ◌⊎◌, Result, Ok, Err}
use Rattle.std.specs.Prelude.{reverse, IfOk, IfSome, Option, Some, None}
use Rattle.std.specs.List.{All, dedup, dedup_from}
use Rattle.std.specs.List.Sorted.{IsStrictlyIncreasing}
use Rattle.std.proofs.lemmas.Bool.Decides.{nat_tests}
use Rattle.std.proofs.lemmas.List.Folds.{list_any_at}
use Rattle.std.proofs.lemmas.List.{reverse-append, take_more, get_or-take, length-take-le}
use Rattle.std.proofs.Math.Seq.{drop-cons}
use Rattle.std.proofs.lemmas.List.Elements.{All-nil, All-cons, All-head, All-tail, All-more}
use Rattle.doc_model.specs.RowLists.{Run, has, AllBelow}
use Rattle.doc_model.proofs.Runs.{run_le, run_lower, has_append}

pub or_cases : (a b : Bool) → (a || b) ≡ true → (a ≡ true) ⊎ (b ≡ true)
or_cases true b h = inl refl
or_cases false b h = inr h

or_left : (a b : Bool) → a ≡ true → (a || b) ≡ true
or_left true b h = refl
or_left false b h = cc

or_right : (a b : Bool) → b ≡ true → (a || b) ≡ true
or_right true b h = refl
or_right false b h = h

same_number : (x y : ℕ) → eqb x y ≡ true → x ≡ y
same_number x y h = grind (arith, nat_tests)

itself : (x : ℕ) → eqb x x ≡ true
itself x = grind (arith, nat_tests)

-- ---- members

-- a member of a list of which each row passes passes
pub member_of_all : (P : ℕ → Type 0) (xs : List ℕ) (y : ℕ) → All P xs → has y xs ≡ true → P y
member_of_all P [] y a h = cc
member_of_all P (x ∷ xs) y a h = elim (or_cases (eqb x y) (has y xs) h) [
  | inl e ↦ subst P (same_number x y e) (All-head P x xs a)
  | inr r ↦ member_of_all P xs y (All-tail P x xs a) r
]

pub all_by_members : (P : ℕ → Type 0) (xs : List ℕ) → ((y : ℕ) → has y xs ≡ true → P y) → All P xs
all_by_members P [] h = All-nil P
all_by_members P (x ∷ xs) h = All-cons P x xs (h x (or_left _ _ (itself x))) (all_by_members P xs (λ y r. h y (or_right (eqb x y) _ r)))

-- the same members, so the same bound
pub all_by_same : (P : ℕ → Type 0) (xs ys : List ℕ) → ((y : ℕ) → has y ys ≡ has y xs) → All P xs → All P ys
all_by_same P xs ys same a = all_by_members P ys (λ y h. member_of_all P xs y a (sym (same y) ∙ h))

either_way : (a b : Bool) → (a || (b || false)) ≡ (b || a)
either_way true true = refl
either_way true false = refl
either_way false true = refl
either_way false false = refl

pub reverse-cons : (x : ℕ) (xs : List ℕ) → reverse (x ∷ xs) ≡ reverse xs ++ x ∷ []
reverse-cons x xs = reverse-append (x ∷ []) xs

pub has-reverse : (y : ℕ) (xs : List ℕ) → has y (reverse xs) ≡ has y xs
has-reverse y [] = refl
has-reverse y (x ∷ xs) =
    ap (has y) (reverse-cons x xs) ∙ has_append y (reverse xs) (x ∷ []) ∙ either_way (has y (reverse xs)) (eqb x y) ∙ ap (λ b. eqb x y || b) (has-reverse y xs)

twice : (a b : Bool) → (a || (a || b)) ≡ (a || b)
twice true b = refl
twice false b = refl

has-dedup_from_at : (y k x : ℕ) (xs : List ℕ) (b : Bool) → eqb x k ≡ b → has y (dedup_from eqb k xs) ≡ (eqb k y || has y xs) → has y (dedup_from eqb x xs) ≡ (eqb x y || has y xs)
    → has y (cond b (dedup_from eqb k xs) (k ∷ dedup_from eqb x xs)) ≡ (eqb k y || (eqb x y || has y xs))
has-dedup_from_at y k x xs true e here next =
    let same : x ≡ k = same_number x k e in here ∙ sym (ap (λ v. eqb k y || (eqb v y || has y xs)) same ∙ twice (eqb k y) (has y xs))
has-dedup_from_at y k x xs false e here next = ap (λ v. eqb k y || v) next

has-dedup_from : (y k : ℕ) (xs : List ℕ) → has y (dedup_from eqb k xs) ≡ (eqb k y || has y xs)
has-dedup_from y k [] = refl
has-dedup_from y k (x ∷ xs) = has-dedup_from_at y k x xs (eqb x k) refl (has-dedup_from y k xs) (has-dedup_from y x xs)

pub has-dedup : (y : ℕ) (xs : List ℕ) → has y (dedup eqb xs) ≡ has y xs
has-dedup y [] = refl
has-dedup y (x ∷ xs) = has-dedup_from y x xs

-- ---- order

tail_rises : (x : ℕ) (xs : List ℕ) → IsStrictlyIncreasing (x ∷ xs) → IsStrictlyIncreasing xs
tail_rises x xs up k h =
    let here : k + 1 ≡ suc k = omega arith in
    let next : k + 1 + 1 ≡ suc (k + 1) = omega arith in
    subst (λ m. get_or (x ∷ xs) m 0 < get_or xs (k + 1) 0) here
    (subst (λ m. get_or (x ∷ xs) (k + 1) 0 < get_or (x ∷ xs) m 0) next (up (k + 1) (let e : length (x ∷ xs) ≡ suc (length xs) = refl in omega (arith, h, e))))

rising_from : (n x : ℕ) (xs : List ℕ) → IsStrictlyIncreasing (x ∷ xs) → AllBelow n (x ∷ xs) → Run x n (x ∷ xs)
rising_from n x [] up below = (omega arith, All-head (λ y. y < n) x [] below)
rising_from n x (y ∷ ys) up below =
    let first : x < y = up 0 (omega arith) in
    (omega arith, run_lower y (suc x) n (y ∷ ys) first (rising_from n y ys (tail_rises x (y ∷ ys) up) (All-tail (λ v. v < n) x (y ∷ ys) below)))

-- rows below n of which each stands before the next
pub rising_run : (n : ℕ) (xs : List ℕ) → IsStrictlyIncreasing xs → AllBelow n xs → Run 0 n xs
rising_run n [] up below = omega arith
rising_run n (x ∷ xs) up below = run_lower x 0 n (x ∷ xs) (omega arith) (rising_from n x xs up below)

pub run_below : (low high : ℕ) (xs : List ℕ) → Run low high xs → AllBelow high xs
run_below low high [] r = All-nil (λ y. y < high)
run_below low high (x ∷ xs) r = All-cons (λ y. y < high) x xs (run_le (suc x) high xs r.1) (run_below (suc x) high xs r.1)

pub run_length : (low high : ℕ) (xs : List ℕ) → Run low high xs → length xs + low ≤ high
run_length low high [] r = omega (arith, r)
run_length low high (x ∷ xs) r = let rest : length xs + suc x ≤ high = run_length (suc x) high xs r.1 in let e : length (x ∷ xs) ≡ suc (length xs) = refl in omega (arith, r.0, rest, e)

pub run_few : (n : ℕ) (xs : List ℕ) → Run 0 n xs → length xs ≤ n
run_few n xs r = let h = run_length 0 n xs r in omega (arith, h)

-- ---- a loop's turn

-- what is left from a place on
pub drop_at : {A : Type 0} (xs : List A) (i : ℕ) (x : A) → x ≡ get_or xs i x → i < length xs → drop i xs ≡ x ∷ drop (i + 1) xs
drop_at xs i x is h = let next : suc i ≡ i + 1 = omega arith in drop-cons xs i x h ∙ ap (λ v. v ∷ drop (suc i) xs) (sym is) ∙ ap (λ k. x ∷ drop k xs) next

-- the same of the first n
pub drop_taken : {A : Type 0} (xs : List A) (n i : ℕ) (x : A) → x ≡ get_or xs i x → i < n → n ≤ length xs → drop i (take n xs) ≡ x ∷ drop (i + 1) (take n xs)
drop_taken xs n i x is less h =
    let long : length (take n xs) ≡ n = length-take-le n xs h in
    drop_at (take n xs) i x (is ∙ sym (get_or-take n xs i x less)) (omega (arith, less, long))

pub take_at : {A : Type 0} (xs : List A) (i : ℕ) (x : A) → x ≡ get_or xs i x → i < length xs → take (i + 1) xs ≡ take i xs ++ x ∷ []
take_at xs i x is h = take_more xs i x h ∙ ap (λ v. take i xs ++ v ∷ []) (sym is)

pub if_ok_from : {A E : Type 0} (r : Result A E) (P Q : A → Type 0) → ((v : A) → P v → Q v) → IfOk r P → IfOk r Q
if_ok_from (Ok v) P Q f h = f v h
if_ok_from (Err e) P Q f h = tt

pub if_some_from : {A : Type 0} (r : Option A) (P Q : A → Type 0) → ((v : A) → P v → Q v) → IfSome r P → IfSome r Q
if_some_from (Some v) P Q f h = f v h
if_some_from None P Q f h = tt

pub member_at : (xs : List ℕ) (i : ℕ) → i < length xs → has (get_or xs i 0) xs ≡ true
member_at xs i h = list_any_at (λ x. eqb x (get_or xs i 0)) xs i 0 h (itself (get_or xs i 0))

pub single : (xs : List ℕ) → length xs ≡ 1 → xs ≡ get_or xs 0 0 ∷ []
single [] h = absurd (let none : length {A = ℕ} [] ≡ 0 = refl in omega (arith, h, none))
single (x ∷ []) h = refl
single (x ∷ y ∷ ys) h = absurd (let long : length (x ∷ y ∷ ys) ≡ suc (suc (length ys)) = refl in omega (arith, h, long))

pub all_more : {A : Type 0} (P : A → Type 0) (xs : List A) (i : ℕ) (x : A) → x ≡ get_or xs i x → i < length xs → All P (take i xs) → P x → All P (take (i + 1) xs)
all_more P xs i x is h before here = All-more P xs i x h before (subst P is here)
