-- A beginning before a dash, and lower case.
use Rattle.std.proofs.Common.{◌≡◌, ℕ, zero, suc, ◌+◌, ◌<◌, Bool, true, false, leb, List, [], ◌∷◌, length, take, drop, get_or, map, refl, sym, ◌∙◌, ap, arith}
use Rattle.std.specs.Prelude.{◌==◌, ◌&&◌, ◌||◌, ◌↔◌}
use Rattle.std.specs.Str.{bytes_eq}
use Rattle.std.specs.Cmp.{both_ways}
use Rattle.std.specs.Char.{to_ascii_lowercase}
use Rattle.std.proofs.lemmas.Bool.{and_right}
use Rattle.std.proofs.lemmas.Bool.Decides.{nat_tests}
use Rattle.std.proofs.lemmas.List.{drop_more}
use Rattle.std.proofs.lemmas.Slice.Eq.{bytes_eq-Decides}
use Rattle.text_base.specs.Strings.{starts_with}
use Rattle.css_meaning.specs.Attributes.{dash_test}

-- ---- a beginning that ends the text or stands before `-`

after_one : (m n : ℕ) → leb (suc m) (suc n) ≡ leb m n
after_one m n = grind (arith, nat_tests)

none_after : (m : ℕ) → leb (suc m) 0 ≡ false
none_after m = grind (arith, nat_tests)

first_dash : (t l : Bool) → l ≡ false → (false || (t && true)) ≡ (true && (l || t))
first_dash true l h = rw h refl
first_dash false l h = rw h refl

same_head : (e s t q r : Bool) → (s || t) ≡ (q && r) → ((e && s) || (e && t)) ≡ ((e && q) && r)
same_head true s t q r h = h
same_head false s t q r h = refl

pub dashed : (x v : List ℕ) → dash_test x v ≡ (starts_with x v && (leb (length x) (length v) || (get_or x (length v) 0 == 45)))
dashed [] [] = refl
dashed (a ∷ x) [] = first_dash (a == 45) _ (none_after (length x))
dashed [] (b ∷ v) = refl
dashed (a ∷ x) (b ∷ v) =
    same_head (a == b) _ _ _ _ (dashed x v)
    ∙ ap (λ l. ((a == b) && starts_with x v) && (l || (get_or x (length v) 0 == 45))) (sym (after_one (length x) (length v)))

-- ---- lower case

dash_kept : (c : ℕ) → (to_ascii_lowercase c == 45) ≡ (c == 45)
dash_kept c = grind (arith, nat_tests)

pub dash_at : (x : List ℕ) (n : ℕ) → (get_or (map to_ascii_lowercase x) n 0 == 45) ≡ (get_or x n 0 == 45)
dash_at [] n = refl
dash_at (c ∷ x) zero = dash_kept c
dash_at (c ∷ x) (suc n) = dash_at x n

-- one text and another in lower case, from a place on
pub one_more : (x v : List ℕ) (i : ℕ) → i < length x → i < length v
    → bytes_eq (drop i x) (map to_ascii_lowercase (drop i v)) ≡ ((get_or x i 0 == to_ascii_lowercase (get_or v i 0)) && bytes_eq (drop (i + 1) x) (map to_ascii_lowercase (drop (i + 1) v)))
one_more x v i l m = ap (λ t. bytes_eq t (map to_ascii_lowercase (drop i v))) (drop_more x i 0 l) ∙ ap (λ t. bytes_eq (get_or x i 0 ∷ drop (i + 1) x) (map to_ascii_lowercase t)) (drop_more v i 0 m)

-- a beginning in lower case
pub lower_front : (v x : List ℕ) → bytes_eq (map to_ascii_lowercase (take (length v) x)) (map to_ascii_lowercase v) ≡ starts_with (map to_ascii_lowercase x) (map to_ascii_lowercase v)
lower_front [] x = refl
lower_front (b ∷ v) [] = refl
lower_front (b ∷ v) (a ∷ x) = ap (λ t. (to_ascii_lowercase a == to_ascii_lowercase b) && t) (lower_front v x)

pub short_start : (x v : List ℕ) → length x < length v → starts_with (map to_ascii_lowercase x) (map to_ascii_lowercase v) ≡ false
short_start x [] h = absurd (omega arith)
short_start [] (b ∷ v) h = refl
short_start (a ∷ x) (b ∷ v) h = and_right (to_ascii_lowercase a == to_ascii_lowercase b) _ (short_start x v (omega arith))

pub too_long : (m n : ℕ) → n < m → leb m n ≡ false
too_long m n h = grind (arith, nat_tests)

pub decides_same : (r : Bool) (x v : List ℕ) → ((r ≡ true) ↔ (x ≡ v)) → r ≡ bytes_eq x v
decides_same r x v h = both_ways r (bytes_eq x v) (λ e. (bytes_eq-Decides x v).1 (h.0 e)) (λ e. h.1 ((bytes_eq-Decides x v).0 e))
