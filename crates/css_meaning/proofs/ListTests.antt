-- Laws of tests and of lists of what passes them.
use Rattle.std.proofs.Common.{◌≡◌, refl, ℕ, Bool, true, false, ◌&&◌, ◌||◌, cond, eqb, List, [], ◌∷◌, ap, sym, ◌∙◌, filter}
use Rattle.std.specs.List.{list_any}
use Rattle.std.proofs.lemmas.Bool.{eqb-true, eq-eqb}
use Rattle.std.proofs.lemmas.Map.Views.{any-filter_same}

-- y is in the list
abbrev pub is_in : List ℕ → ℕ → Bool
is_in xs y = list_any (λ z. eqb z y) xs

pub and_or : (a b c : Bool) → ((a || b) && c) ≡ ((a && c) || (b && c))
and_or true b true = refl
and_or true true false = refl
and_or true false false = refl
and_or false b c = refl

pub and_assoc : (a b c : Bool) → ((a && b) && c) ≡ (a && (b && c))
and_assoc true b c = refl
and_assoc false b c = refl

pub or_swap : (a b c d : Bool) → ((a || b) || (c || d)) ≡ ((a || c) || (b || d))
or_swap true b c d = refl
or_swap false true true d = refl
or_swap false true false d = refl
or_swap false false true d = refl
or_swap false false false d = refl

pub and_true : (a : Bool) → (a && true) ≡ a
and_true true = refl
and_true false = refl

pub and_false : (a : Bool) → (a && false) ≡ false
and_false true = refl
and_false false = refl

merge : (a b e t : Bool) → (e ≡ true → a ≡ b) → ((a && e) || (b && t)) ≡ (b && (e || t))
merge true b false t h = refl
merge false b false t h = refl
merge true true true t h = refl
merge false false true t h = refl
merge true false true t h = let e = h refl in cc
merge false true true t h = let e = h refl in cc

pub or_false : (a : Bool) → (a || false) ≡ a
or_false true = refl
or_false false = refl

pub turned : (h l m e : Bool) → ((h && (l && m)) && e) ≡ (m && (l && (h && e)))
turned true true true e = refl
turned true true false e = refl
turned true false true e = refl
turned true false false e = refl
turned false true true e = refl
turned false true false e = refl
turned false false true e = refl
turned false false false e = refl

pub and_or_left : (a b c : Bool) → (a && (b || c)) ≡ ((a && b) || (a && c))
and_or_left true b c = refl
and_or_left false b c = refl

module _ {X : Type 0} where
  pub and_any : (a : Bool) (p : X → Bool) (xs : List X) → (a && list_any p xs) ≡ list_any (λ x. a && p x) xs
  and_any a p [] = and_false a
  and_any a p (x ∷ xs) = and_or_left a (p x) (list_any p xs) ∙ ap (λ b. (a && p x) || b) (and_any a p xs)

  pub any_same : (p q : X → Bool) → ((x : X) → p x ≡ q x) → (xs : List X) → list_any p xs ≡ list_any q xs
  any_same p q e [] = refl
  any_same p q e (x ∷ xs) = ap (λ b. b || list_any p xs) (e x) ∙ ap (λ b. q x || b) (any_same p q e xs)

  pub any_none : (xs : List X) → list_any (λ x. false) xs ≡ false
  any_none [] = refl
  any_none (x ∷ xs) = any_none xs

  pub any_and : (p : X → Bool) (b : Bool) (xs : List X) → (list_any p xs && b) ≡ list_any (λ x. p x && b) xs
  any_and p b [] = refl
  any_and p b (x ∷ xs) = and_or (p x) (list_any p xs) b ∙ ap (λ c. (p x && b) || c) (any_and p b xs)

  pub any_or : (p q : X → Bool) (xs : List X) → list_any (λ x. p x || q x) xs ≡ (list_any p xs || list_any q xs)
  any_or p q [] = refl
  any_or p q (x ∷ xs) = ap (λ b. (p x || q x) || b) (any_or p q xs) ∙ or_swap (p x) (q x) (list_any p xs) (list_any q xs)

  pub any_filter : (p q : X → Bool) (xs : List X) → list_any q (filter p xs) ≡ list_any (λ x. p x && q x) xs
  any_filter p q [] = refl
  any_filter p q (x ∷ xs) =
      elim (p x) as (λ b. list_any q (cond b (x ∷ filter p xs) (filter p xs)) ≡ ((b && q x) || list_any (λ y. p y && q y) xs))
      [ true ↦ ap (λ b. q x || b) (any_filter p q xs) | false ↦ any_filter p q xs ]

  pub filter_same : (p q : X → Bool) → ((x : X) → p x ≡ q x) → (xs : List X) → filter p xs ≡ filter q xs
  filter_same p q e [] = refl
  filter_same p q e (x ∷ xs) = ap (λ b. cond b (x ∷ filter p xs) (filter p xs)) (e x) ∙ ap (λ ys. cond (q x) (x ∷ ys) ys) (filter_same p q e xs)

pub any_swap : {X Y : Type 0} (f : X → Y → Bool) (xs : List X) (ys : List Y)
    → list_any (λ x. list_any (λ y. f x y) ys) xs ≡ list_any (λ y. list_any (λ x. f x y) xs) ys
any_swap f [] ys = sym (any_none ys)
any_swap f (x ∷ xs) ys =
    ap (λ b. list_any (λ y. f x y) ys || b) (any_swap f xs ys) ∙ sym (any_or (λ y. f x y) (λ y. list_any (λ z. f z y) xs) ys)

pub or_true : (a : Bool) → (a || true) ≡ true
or_true true = refl
or_true false = refl

pub in_first : (x : ℕ) (xs : List ℕ) → is_in (x ∷ xs) x ≡ true
in_first x xs = ap (λ b. b || is_in xs x) (eq-eqb x x refl)

pub in_rest : (x y : ℕ) (xs : List ℕ) → is_in xs y ≡ true → is_in (x ∷ xs) y ≡ true
in_rest x y xs h = ap (λ b. eqb x y || b) h ∙ or_true (eqb x y)

-- tests that agree at each member of the list
pub any_among : (p q : ℕ → Bool) (xs : List ℕ) → ((x : ℕ) → is_in xs x ≡ true → p x ≡ q x) → list_any p xs ≡ list_any q xs
any_among p q [] e = refl
any_among p q (x ∷ xs) e =
    ap (λ b. b || list_any p xs) (e x (in_first x xs)) ∙ ap (λ b. q x || b) (any_among p q xs (λ y h. e y (in_rest x y xs h)))

pub filter_among : (p q : ℕ → Bool) (xs : List ℕ) → ((x : ℕ) → is_in xs x ≡ true → p x ≡ q x) → filter p xs ≡ filter q xs
filter_among p q [] e = refl
filter_among p q (x ∷ xs) e =
    ap (λ b. cond b (x ∷ filter p xs) (filter p xs)) (e x (in_first x xs))
    ∙ ap (λ ys. cond (q x) (x ∷ ys) ys) (filter_among p q xs (λ y h. e y (in_rest x y xs h)))

-- a filter keeps y where y is in the list and passes
pub in_filter : (p : ℕ → Bool) (xs : List ℕ) (y : ℕ) → is_in (filter p xs) y ≡ (p y && is_in xs y)
in_filter p xs y = any-filter_same (λ z. eqb z y) p (p y) (λ z h. ap p (eqb-true z y h)) xs

-- a test of one number
pub any_one : (p : ℕ → Bool) (xs : List ℕ) (r : ℕ) → list_any (λ x. p x && eqb x r) xs ≡ (p r && is_in xs r)
any_one p [] r = sym (and_false (p r))
any_one p (x ∷ xs) r =
    ap (λ b. (p x && eqb x r) || b) (any_one p xs r) ∙ merge (p x) (p r) (eqb x r) (is_in xs r) (λ h. ap p (eqb-true x r h))
