-- No other row passes a test where none does before and none after.
use Rattle.std.proofs.Common.{◌≡◌, refl, ℕ, suc, Bool, true, false, ◌&&◌, ◌||◌, cond, eqb, ltb, ne_eqb, List, [], ◌∷◌, length, filter, ap, sym, ◌∙◌, arith}
use Rattle.std.specs.Prelude.{not, pos}
use Rattle.std.specs.List.{list_any}
use Rattle.std.specs.Cmp.{both_ways}
use Rattle.std.proofs.lemmas.Bool.{eqb-true, eq-eqb}
use Rattle.std.proofs.lemmas.Bool.Decides.{nat_tests}
use Rattle.std.proofs.lemmas.Int.{ints}
use Rattle.doc_model.specs.Document.{Document, rows}
use Rattle.css_meaning.specs.Nth.{is_nth}
use Rattle.css_meaning.specs.Only.{OnlyLaws}
use Rattle.css_meaning.specs.Siblings.{is_sibling, is_of_type, is_only, count_before, count_after}
use Rattle.css_meaning.proofs.ListTests.{and_or_left, any_same, any_or}
use Rattle.css_meaning.proofs.Positions.{nth_law}

apart : (y e : ℕ) → not (eqb y e) ≡ (ltb y e || ltb e y)
apart y e = grind (arith, nat_tests)

not_or : (a b : Bool) → not (a || b) ≡ (not a && not b)
not_or true b = refl
not_or false b = refl

not_zero : (n : ℕ) → eqb (suc n) 0 ≡ false
not_zero n = ne_eqb (suc n) 0 (λ z. omega arith)

pub count_none : (q : ℕ → Bool) (xs : List ℕ) → not (list_any q xs) ≡ eqb (length (filter q xs)) 0
count_none q [] = refl
count_none q (x ∷ xs) =
    elim (q x) as (λ b. not (b || list_any q xs) ≡ eqb (length (cond b (x ∷ filter q xs) (filter q xs))) 0)
    [ true ↦ sym (not_zero (length (filter q xs))) | false ↦ count_none q xs ]

-- the position 1 is that of none before
pub first_position : (n : ℕ) → is_nth (pos 0) (pos 1) (suc n) ≡ eqb n 0
first_position n =
    both_ways _ _
    (λ h. let w = (nth_law (pos 0) (pos 1) (suc n)).0 h in let none : n ≡ 0 = omega (arith, ints, w.1) in eq-eqb n 0 none)
    (λ h. let none : n ≡ 0 = eqb-true n 0 h in (nth_law (pos 0) (pos 1) (suc n)).1 (0, omega (arith, ints, none)))

both : (a b c d : Bool) → a ≡ c → b ≡ d → (a && b) ≡ (c && d)
both a b c d h k = cc

pub only_counts : (doc : Document) (t : ℕ → Bool) (e : ℕ) → is_only doc t e ≡ (eqb (count_before doc t e) 0 && eqb (count_after doc t e) 0)
only_counts doc t e =
    ap not (any_same _ _ (λ y. ap (λ b. t y && b) (apart y e) ∙ and_or_left (t y) (ltb y e) (ltb e y)) (rows doc) ∙ any_or (λ y. t y && ltb y e) (λ y. t y && ltb e y) (rows doc))
    ∙ not_or _ _
    ∙ both _ _ _ _ (count_none (λ y. t y && ltb y e) (rows doc)) (count_none (λ y. t y && ltb e y) (rows doc))

only_positions : (doc : Document) (t : ℕ → Bool) (e : ℕ)
    → is_only doc t e ≡ (is_nth (pos 0) (pos 1) (suc (count_before doc t e)) && is_nth (pos 0) (pos 1) (suc (count_after doc t e)))
only_positions doc t e =
    only_counts doc t e
    ∙ both _ _ _ _ (sym (first_position (count_before doc t e))) (sym (first_position (count_after doc t e)))

pub only_laws : OnlyLaws
only_laws = record {
  child = λ doc e. only_positions doc (is_sibling doc e) e;
  of_type = λ doc e. only_positions doc (is_of_type doc e) e;
}
