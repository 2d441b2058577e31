-- A part of a list, and what it is mapped to.
use Rattle.std.proofs.Common.{◌≡◌, ℕ, zero, suc, ◌+◌, ◌-◌, ◌<◌, ◌≤◌, ◌++◌, ◌∙◌, Bool, true, false, List, [], ◌∷◌, map, length, take, drop, get_or, refl, sym, ap, subst, arith, append_assoc, encode_utf8_all}
use Rattle.std.specs.Prelude.{flat_map, All, ◌||◌}
use Rattle.std.specs.List.{list_any}
use Rattle.std.proofs.lemmas.List.{length-take, get_or-take}
use Rattle.std.proofs.lemmas.List.Elements.{All-nil, All-cons, All-head, All-tail}
use Rattle.std.proofs.lemmas.List.Sums.{sum_by-cons, sum_by_push, sum_by_more, sum_by-take-le}
use Rattle.query_chain.specs.Items.{Item, node, text, own_text, strings, bytes_of}
use Rattle.query_chain.proofs.Adding.{bytes-append}

-- what stands before a place, at it and after it
pub flat_split : {X A : Type 0} (f : X → List A) (xs : List X) (i : ℕ) (d : X) → i < length xs →
    flat_map f xs ≡ flat_map f (take i xs) ++ (f (get_or xs i d) ++ flat_map f (drop (suc i) xs))
flat_split f [] i d h = absurd (omega (arith, h))
flat_split f (x ∷ xs) zero d h = refl
flat_split f (x ∷ xs) (suc i) d h =
    ap (λ r. f x ++ r) (flat_split f xs i d (omega arith)) ∙ sym (append_assoc (f x) (flat_map f (take i xs)) (f (get_or xs i d) ++ flat_map f (drop (suc i) xs)))

pub flat_more : {X A : Type 0} (f : X → List A) (xs : List X) (i : ℕ) (d : X) → i < length xs → flat_map f (take (i + 1) xs) ≡ flat_map f (take i xs) ++ f (get_or xs i d)
flat_more f [] i d h = absurd (omega (arith, h))
flat_more f (x ∷ xs) zero d h = append_nil (f x) where
  append_nil : {A : Type 0} (ys : List A) → ys ++ [] ≡ ys
  append_nil [] = refl
  append_nil (y ∷ ys) = ap (λ r. y ∷ r) (append_nil ys)
flat_more f (x ∷ xs) (suc i) d h =
    let one : suc i + 1 ≡ suc (i + 1) = omega arith in
    rw one (ap (λ r. f x ++ r) (flat_more f xs i d (omega arith)) ∙ sym (append_assoc (f x) (flat_map f (take i xs)) (f (get_or xs i d))))

pub map_more : {X A : Type 0} (f : X → A) (xs : List X) (i : ℕ) (d : X) → i < length xs → map f (take (i + 1) xs) ≡ map f (take i xs) ++ f (get_or xs i d) ∷ []
map_more f [] i d h = absurd (omega (arith, h))
map_more f (x ∷ xs) zero d h = refl
map_more f (x ∷ xs) (suc i) d h =
    let one : suc i + 1 ≡ suc (i + 1) = omega arith in
    rw one (ap (λ r. f x ∷ r) (map_more f xs i d (omega arith)))

-- what is left of a limit, after one text more
pub left_more : (left limit len : ℕ) (old new : List (List ℕ)) (t : List ℕ) → new ≡ old ++ t ∷ [] → len ≡ length (encode_utf8_all t) → len ≤ left → left + bytes_of old ≡ limit →
    left - len + bytes_of new ≡ limit
left_more left limit len old new t e n fits h =
    let size : bytes_of new ≡ bytes_of old + length (encode_utf8_all t) = ap bytes_of e ∙ sum_by_push (λ t. length (encode_utf8_all t)) old t in
    omega (arith, size, n, fits, h)

map_split : {X A : Type 0} (f : X → A) (xs : List X) (i : ℕ) (d : X) → i < length xs → map f xs ≡ map f (take i xs) ++ f (get_or xs i d) ∷ map f (drop (suc i) xs)
map_split f [] i d h = absurd (omega (arith, h))
map_split f (x ∷ xs) zero d h = refl
map_split f (x ∷ xs) (suc i) d h = ap (λ r. f x ∷ r) (map_split f xs i d (omega arith))

-- the bytes before a place, and at it
pub bytes_part : {X : Type 0} (f : X → List ℕ) (xs : List X) (i : ℕ) (d : X) → i < length xs →
    bytes_of (map f (take i xs)) + length (encode_utf8_all (f (get_or xs i d))) ≤ bytes_of (map f xs)
bytes_part f xs i d h =
    let whole = ap bytes_of (map_split f xs i d h) ∙ bytes-append (map f (take i xs)) (f (get_or xs i d) ∷ map f (drop (suc i) xs)) in
    let rest = sum_by-cons (λ t. length (encode_utf8_all t)) (f (get_or xs i d)) (map f (drop (suc i) xs)) in
    omega (arith, whole, rest)

pub bytes_front : (ts : List (List ℕ)) (i : ℕ) (d : List ℕ) → i < length ts → bytes_of (take i ts) + length (encode_utf8_all (get_or ts i d)) ≤ bytes_of ts
bytes_front ts i d h =
    let more = sum_by_more (λ t. length (encode_utf8_all t)) ts i d h in
    let front = sum_by-take-le (λ t. length (encode_utf8_all t)) ts (i + 1) in
    omega (arith, more, front)

pub any_at : {X : Type 0} (p : X → Bool) (xs : List X) (i : ℕ) (d : X) → i < length xs → p (get_or xs i d) ≡ true → list_any p xs ≡ true
any_at p [] i d h e = absurd (omega (arith, h))
any_at p (x ∷ xs) zero d h e = ap (λ b. b || list_any p xs) e
any_at p (x ∷ xs) (suc i) d h e = ap (λ b. p x || b) (any_at p xs i d (omega arith) e) ∙ or_true (p x) where
  or_true : (b : Bool) → (b || true) ≡ true
  or_true true = refl
  or_true false = refl

-- the texts of items that are all texts, and of rows
pub strings_texts : (ts : List (List ℕ)) → strings (map text ts) ≡ ts
strings_texts [] = refl
strings_texts (t ∷ ts) = ap (λ r. t ∷ r) (strings_texts ts)

pub strings_nodes : (xs : List ℕ) → strings (map node xs) ≡ []
strings_nodes [] = refl
strings_nodes (x ∷ xs) = strings_nodes xs

pub strings-append : (is js : List Item) → strings (is ++ js) ≡ strings is ++ strings js
strings-append [] js = refl
strings-append (i ∷ is) js = ap (λ r. own_text i ++ r) (strings-append is js) ∙ sym (append_assoc (own_text i) (strings is) (strings js))

pub all_first : {X : Type 0} (P : X → Type 0) (xs : List X) (n : ℕ) → All P xs → All P (take n xs)
all_first P xs n h i d low =
    let size = length-take n xs in
    let at : get_or (take n xs) i d ≡ get_or xs i d = get_or-take n xs i d (omega (arith, low, size)) in
    let below : i < length xs = omega (arith, low, size) in
    subst P (sym at) (h i d below)

pub all_one : {X : Type 0} (P : X → Type 0) (x : X) → P x → All P (x ∷ [])
all_one P x h zero d low = h
all_one P x h (suc i) d low = absurd (omega (arith, low))

pub all_mapped : {X Y : Type 0} (P : Y → Type 0) (f : X → Y) (xs : List X) → All P (map f xs) → All (λ x. P (f x)) xs
all_mapped P f [] h = All-nil (λ x. P (f x))
all_mapped P f (x ∷ xs) h = All-cons (λ x. P (f x)) x xs (All-head P (f x) (map f xs) h) (all_mapped P f xs (All-tail P (f x) (map f xs) h))

pub none_left : {X : Type 0} (xs : List X) (i : ℕ) → length xs ≤ i → drop i xs ≡ []
none_left [] zero h = refl
none_left [] (suc i) h = refl
none_left (x ∷ xs) zero h = absurd (omega (arith, h))
none_left (x ∷ xs) (suc i) h = none_left xs i (omega arith)
