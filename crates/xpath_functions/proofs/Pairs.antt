-- Texts of two sides that differ.
use Rattle.std.proofs.Common.{◌≡◌, refl, sym, ◌∙◌, ap, ℕ, ◌<◌, Bool, true, false, ◌||◌, not, List, [], ◌∷◌, length, get_or, drop, map, suc, drop-cons, arith}
use Rattle.std.specs.List.{list_any}
use Rattle.std.specs.Str.{bytes_eq}
use Rattle.xpath_functions.proofs.Truths.{same_any}
use Rattle.std.proofs.lemmas.Slice.Eq.{bytes_eq-Decides}

abbrev differ : List ℕ → List ℕ → Bool
differ a b = not (bytes_eq a b)

-- a row of the other side has another text
abbrev other : (ℕ → List ℕ) → List ℕ → List ℕ → Bool
other t ys s = list_any (λ y. differ s (t y)) ys

or_none : (a b : Bool) → (a || b) ≡ false → (a ≡ false) × (b ≡ false)
or_none true b h = absurd (let no : true ≡ false = h in cc)
or_none false b h = (refl, h)

not_none : (b : Bool) → not b ≡ false → b ≡ true
not_none true h = refl
not_none false h = absurd (let no : true ≡ false = h in cc)

same : (a b : List ℕ) → differ a b ≡ false → a ≡ b
same a b h = (bytes_eq-Decides a b).0 (not_none (bytes_eq a b) h)

alike : (a : List ℕ) → differ a a ≡ false
alike a = ap not ((bytes_eq-Decides a a).1 refl)

pub nothing_fits : (xs : List ℕ) → list_any (λ (x : ℕ). false) xs ≡ false
nothing_fits [] = refl
nothing_fits (x ∷ xs) = nothing_fits xs

-- where all texts of one side are one
one_text : (t : ℕ → List ℕ) (s : List ℕ) (xs ys : List ℕ) → list_any (λ x. differ (t x) s) xs ≡ false → list_any (λ x. other t ys (t x)) xs ≡ list_any (λ (x : ℕ). other t ys s) xs
one_text t s [] ys h = refl
one_text t s (x ∷ xs) ys h =
    let two = or_none _ _ h in
    ap (λ v. other t ys v || list_any (λ x. other t ys (t x)) xs) (same (t x) s two.0) ∙ ap (λ b. other t ys s || b) (one_text t s xs ys two.1)

pub others : (t : ℕ → List ℕ) (xs ys : List ℕ) → 0 < length xs → list_any (λ x. differ (t x) (t (get_or xs 0 0))) xs ≡ false
    → list_any (λ y. differ (t (get_or xs 0 0)) (t y)) ys ≡ list_any (λ x. list_any (λ y. differ (t x) (t y)) ys) xs
others t [] ys l h = absurd (omega arith)
others t (x ∷ xs) ys l h = sym (one_text t (t x) (x ∷ xs) ys h ∙ first (other t ys (t x)) xs)
  where
    first : (b : Bool) (xs : List ℕ) → (b || list_any (λ (x : ℕ). b) xs) ≡ b
    first true xs = refl
    first false xs = nothing_fits xs

-- where no two texts of the sides differ, all texts of one side are the first of the other
all_first : (t : ℕ → List ℕ) (y : ℕ) (ys xs : List ℕ) → list_any (λ x. other t (y ∷ ys) (t x)) xs ≡ false → list_any (λ x. differ (t x) (t y)) xs ≡ false
all_first t y ys [] h = refl
all_first t y ys (x ∷ xs) h =
    let two = or_none _ _ h in
    ap (λ b. b || list_any (λ x. differ (t x) (t y)) xs) (or_none _ _ two.0).0 ∙ all_first t y ys xs two.1

pub some_other : (t : ℕ → List ℕ) (xs ys : List ℕ) → 0 < length xs → 0 < length ys → list_any (λ x. differ (t x) (t (get_or xs 0 0))) xs ≡ true
    → list_any (λ x. list_any (λ y. differ (t x) (t y)) ys) xs ≡ true
some_other t [] ys l k h = absurd (omega arith)
some_other t (x ∷ xs) [] l k h = absurd (omega arith)
some_other t (x ∷ xs) (y ∷ ys) l k h = at (list_any (λ x. other t (y ∷ ys) (t x)) (x ∷ xs)) refl
  where
    at : (b : Bool) → list_any (λ x. other t (y ∷ ys) (t x)) (x ∷ xs) ≡ b → b ≡ true
    at true e = refl
    at false e =
        let all : list_any (λ x. differ (t x) (t y)) (x ∷ xs) ≡ false = all_first t y ys (x ∷ xs) e in
        let here : t x ≡ t y = same (t x) (t y) (or_none _ _ all).0 in
        sym (ap (λ s. list_any (λ z. differ (t z) s) (x ∷ xs)) here ∙ all) ∙ h

-- ---- texts that both sides have

any_map : {A : Type 0} (p : List ℕ → Bool) (f : A → List ℕ) (xs : List A) → list_any (λ x. p (f x)) xs ≡ list_any p (map f xs)
any_map p f [] = refl
any_map p f (x ∷ xs) = ap (λ b. p (f x) || b) (any_map p f xs)

or_swap : (a b c d : Bool) → ((a || b) || (c || d)) ≡ ((a || c) || (b || d))
or_swap true b c d = refl
or_swap false true true d = refl
or_swap false true false d = refl
or_swap false false c d = refl

any_or : (p q : ℕ → Bool) (xs : List ℕ) → (list_any p xs || list_any q xs) ≡ list_any (λ x. p x || q x) xs
any_or p q [] = refl
any_or p q (x ∷ xs) = or_swap (p x) (list_any p xs) (q x) (list_any q xs) ∙ ap (λ b. (p x || q x) || b) (any_or p q xs)

any_swap : (r : ℕ → ℕ → Bool) (xs ys : List ℕ) → list_any (λ y. list_any (λ x. r x y) xs) ys ≡ list_any (λ x. list_any (λ y. r x y) ys) xs
any_swap r xs [] = sym (nothing_fits xs)
any_swap r xs (y ∷ ys) = ap (λ b. list_any (λ x. r x y) xs || b) (any_swap r xs ys) ∙ any_or (λ x. r x y) (λ x. list_any (λ y. r x y) ys) xs

-- `has` says which texts the rows xs have
pub shared : {A : Type 0} (has : List ℕ → Bool) (f : A → List ℕ) (texts : List A) (t : ℕ → List ℕ) (xs ys : List ℕ)
    → ((q : List ℕ) → has q ≡ list_any (λ w. bytes_eq (f w) q) texts) → map f texts ≡ map t xs
    → list_any (λ y. has (t y)) ys ≡ list_any (λ x. list_any (λ y. bytes_eq (t x) (t y)) ys) xs
shared has f texts t xs ys h e =
    same_any (λ y. has (t y)) (λ y. list_any (λ x. bytes_eq (t x) (t y)) xs) ys
    (λ y. h (t y) ∙ any_map (λ w. bytes_eq w (t y)) f texts ∙ ap (list_any (λ w. bytes_eq w (t y))) e ∙ sym (any_map (λ w. bytes_eq w (t y)) t xs))
    ∙ any_swap (λ x y. bytes_eq (t x) (t y)) xs ys

-- one of the rest passes
pub any_at : (p : ℕ → Bool) (xs : List ℕ) (i : ℕ) → i < length xs → p (get_or xs i 0) ≡ true → list_any p (drop i xs) ≡ true
any_at p xs i l h = ap (list_any p) (drop-cons xs i 0 l) ∙ ap (λ b. b || list_any p (drop (suc i) xs)) h
