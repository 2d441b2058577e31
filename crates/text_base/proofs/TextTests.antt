-- What std's tests on bytes and a search say, in the words of the tests on texts.
use Rattle.std.proofs.Common.{◌≡◌, ℕ, zero, suc, ◌+◌, ◌-◌, ◌<◌, ◌≤◌, Bool, true, false, cond, eqb, ltb, List, [], ◌∷◌, length, drop, refl, sym, ◌∙◌, ap, arith, inl, inr, lt-ltb, zero-add}
use Rattle.std.specs.Prelude.{◌==◌, ◌&&◌, ◌||◌}
use Rattle.std.specs.Cmp.{both_ways}
use Rattle.std.specs.List as list
use Rattle.std.specs.Str.{bytes_eq}
use Rattle.std.specs.Cmp.Lexicographic.{pointwise}
use Rattle.std.proofs.lemmas.Bool.{and_right, or_from, cases_lt, ltb-true}
use Rattle.text_base.specs.Strings.{starts_with, ends_with, contains, is_empty}
use Rattle.text_base.specs.Text.{first_place, find_where, begins_with}
use Rattle.text_base.proofs.Swaps.{flip}

and_both : (a b c d : Bool) → a ≡ c → b ≡ d → (a && b) ≡ (c && d)
and_both a b c d h k = cc

pub std_starts : (x v : List ℕ) → list.starts_with eqb x v ≡ starts_with x v
std_starts x [] = refl
std_starts [] (b ∷ v) = refl
std_starts (a ∷ x) (b ∷ v) = and_both _ _ _ _ (flip b a) (std_starts x v)

std_same : (y v : List ℕ) → pointwise eqb v y ≡ bytes_eq y v
std_same [] [] = refl
std_same (a ∷ y) [] = refl
std_same [] (b ∷ v) = refl
std_same (a ∷ y) (b ∷ v) = and_both _ _ _ _ (flip b a) (std_same y v)

-- texts of different lengths are not the same
other_length : (x v : List ℕ) → (length x ≡ length v → ⊥) → bytes_eq x v ≡ false
other_length [] [] h = absurd (h refl)
other_length [] (b ∷ v) h = refl
other_length (a ∷ x) [] h = refl
other_length (a ∷ x) (b ∷ v) h = and_right (a == b) _ (other_length x v (λ e. h (omega arith)))

short_end : (x v : List ℕ) → length x < length v → ends_with x v ≡ false
short_end [] v h = other_length [] v (λ e. omega arith)
short_end (a ∷ x) v h = or_from _ _ (other_length (a ∷ x) v (λ e. omega arith)) (short_end x v (omega arith))

or_false : (x y : Bool) → y ≡ false → x ≡ (x || y)
or_false true y h = refl
or_false false y h = sym h

false_or : (x y z : Bool) → x ≡ false → z ≡ y → z ≡ (x || y)
false_or x y z h k = rw h k

end_whole : (x v : List ℕ) → length x ≤ length v → bytes_eq x v ≡ ends_with x v
end_whole [] v h = refl
end_whole (a ∷ x) v h = or_false _ _ (short_end x v (omega arith))

end_rest : (n : ℕ) (x v : List ℕ) → length x ≡ n + length v → bytes_eq (drop n x) v ≡ ends_with x v
end_rest zero x v h = end_whole x v (omega arith)
end_rest (suc n) [] v h = absurd (omega arith)
end_rest (suc n) (a ∷ x) v h = false_or _ _ _ (other_length (a ∷ x) v (λ e. omega arith)) (end_rest n x v (omega arith))

no_front : (m k : ℕ) → m < k → m - k ≡ 0
no_front m k h = omega arith

end_drop : (x v : List ℕ) → bytes_eq (drop (length x - length v) x) v ≡ ends_with x v
end_drop x v = elim (cases_lt (length x) (length v)) [
  | inl lt ↦ ap (λ n. bytes_eq (drop n x) v) (no_front (length x) (length v) lt) ∙ end_whole x v (omega arith)
  | inr ge ↦ end_rest (length x - length v) x v (omega arith)
]

pub std_ends : (x v : List ℕ) → list.ends_with eqb x v ≡ ends_with x v
std_ends x v = std_same (drop (length x - length v) x) v ∙ end_drop x v

-- ---- a part, by the first place where it stands

pub begins_same : (v x : List ℕ) → begins_with v x ≡ starts_with x v
begins_same [] x = refl
begins_same (b ∷ v) [] = refl
begins_same (b ∷ v) (a ∷ x) = ap (λ t. (a == b) && t) (begins_same v x)

later : (f n : ℕ) → ltb (1 + f) (suc n) ≡ ltb f n
later f n = both_ways _ _ (λ h. lt-ltb f n (omega (arith, ltb-true (1 + f) (suc n) h))) (λ h. lt-ltb (1 + f) (suc n) (omega (arith, ltb-true f n h)))

one_place : (s c : Bool) (f n : ℕ) → ltb f n ≡ c → ltb (cond s 0 (1 + f)) (suc n) ≡ (s || c)
one_place true c f n h = lt-ltb 0 (suc n) (omega arith)
one_place false c f n h = later f n ∙ h

pub found_part : (x : List ℕ) (b : ℕ) (v : List ℕ) → ltb (first_place (begins_with (b ∷ v)) x) (length x) ≡ contains x (b ∷ v)
found_part [] b v = refl
found_part (a ∷ x) b v =
    one_place (begins_with (b ∷ v) (a ∷ x)) _ _ _ (found_part x b v) ∙ ap (λ t. t || contains x (b ∷ v)) (begins_same (b ∷ v) (a ∷ x))

-- every text contains the empty one
pub no_part : (x : List ℕ) → contains x [] ≡ true
no_part [] = refl
no_part (a ∷ x) = refl

-- the first place of a part
pub part_found : (x v : List ℕ) (at : ℕ) → is_empty v ≡ false → at ≡ find_where (begins_with v) x 0 → ltb at (length x) ≡ contains x v
part_found x [] at h e = absurd (let no : true ≡ false = h in cc)
part_found x (b ∷ v) at h e = ap (λ k. ltb k (length x)) (e ∙ zero-add (first_place (begins_with (b ∷ v)) x)) ∙ found_part x b v

pub empty_part : (x v : List ℕ) → is_empty v ≡ true → contains x v ≡ true
empty_part x [] h = no_part x
empty_part x (b ∷ v) h = absurd (let no : false ≡ true = h in cc)
