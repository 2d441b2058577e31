-- The tests on texts against the parts of a text.
use Rattle.std.proofs.Common.{◌≡◌, ℕ, true, List, [], ◌∷◌, ◌++◌, length, drop, refl, sym, ◌∙◌, ap, subst, inl, inr}
use Rattle.std.specs.Prelude.{◌↔◌}
use Rattle.std.specs.Str.{bytes_eq}
use Rattle.std.proofs.lemmas.Bool.{and_parts, and_from, or_cases, or_left, or_right, eqb-true, eq-eqb}
use Rattle.text_base.specs.Strings.{starts_with, ends_with, contains}
use Rattle.text_base.specs.Parts.{Begins, Ends, Occurs}

same_is : (x v : List ℕ) → bytes_eq x v ≡ true → x ≡ v
same_is [] [] h = refl
same_is [] (b ∷ v) h = cc
same_is (a ∷ x) [] h = cc
same_is (a ∷ x) (b ∷ v) h =
    let head : a ≡ b = eqb-true a b (and_parts _ _ h).0 in
    let rest : x ≡ v = same_is x v (and_parts _ _ h).1 in
    ap (λ t. a ∷ t) rest ∙ ap (λ c. c ∷ v) head

self_same : (v : List ℕ) → bytes_eq v v ≡ true
self_same [] = refl
self_same (b ∷ v) = and_from _ _ (eq-eqb b b refl) (self_same v)

pub same_means : (x v : List ℕ) → (bytes_eq x v ≡ true) ↔ (x ≡ v)
same_means x v = (same_is x v, λ e. subst (λ t. bytes_eq x t ≡ true) e (self_same x))

pub starts_rest : (x v : List ℕ) → starts_with x v ≡ true → x ≡ v ++ drop (length v) x
starts_rest x [] h = refl
starts_rest [] (b ∷ v) h = cc
starts_rest (a ∷ x) (b ∷ v) h =
    let head : a ≡ b = eqb-true a b (and_parts _ _ h).0 in
    let rest : x ≡ v ++ drop (length v) x = starts_rest x v (and_parts _ _ h).1 in
    ap (λ t. a ∷ t) rest ∙ ap (λ c. c ∷ (v ++ drop (length v) x)) head

starts_self : (v r : List ℕ) → starts_with (v ++ r) v ≡ true
starts_self [] r = refl
starts_self (b ∷ v) r = and_from _ _ (eq-eqb b b refl) (starts_self v r)

drop_self : (v r : List ℕ) → drop (length v) (v ++ r) ≡ r
drop_self [] r = refl
drop_self (b ∷ v) r = drop_self v r

pub begins_means : (x v : List ℕ) → (starts_with x v ≡ true) ↔ Begins x v
begins_means x v = (λ h. record { after = drop (length v) x; is = starts_rest x v h }, λ b. subst (λ t. starts_with t v ≡ true) (sym b.is) (starts_self v b.after))

ends_from : (x v : List ℕ) → ends_with x v ≡ true → Ends x v
ends_from [] v h = record { ahead = []; is = same_is [] v h }
ends_from (a ∷ x) v h = elim (or_cases _ _ h) [
  | inl e ↦ record { ahead = []; is = same_is (a ∷ x) v e }
  | inr e ↦ let rest : Ends x v = ends_from x v e in record { ahead = a ∷ rest.ahead; is = ap (λ t. a ∷ t) rest.is }
]

ends_self : (v : List ℕ) → ends_with v v ≡ true
ends_self [] = refl
ends_self (b ∷ v) = or_left _ _ (self_same (b ∷ v))

ends_to : (a v : List ℕ) → ends_with (a ++ v) v ≡ true
ends_to [] v = ends_self v
ends_to (c ∷ a) v = or_right _ _ (ends_to a v)

pub ends_means : (x v : List ℕ) → (ends_with x v ≡ true) ↔ Ends x v
ends_means x v = (ends_from x v, λ b. subst (λ t. ends_with t v ≡ true) (sym b.is) (ends_to b.ahead v))

occurs_from : (x v : List ℕ) → contains x v ≡ true → Occurs x v
occurs_from [] v h = record { ahead = []; after = drop (length v) []; is = starts_rest [] v h }
occurs_from (a ∷ x) v h = elim (or_cases _ _ h) [
  | inl e ↦ record { ahead = []; after = drop (length v) (a ∷ x); is = starts_rest (a ∷ x) v e }
  | inr e ↦ let rest : Occurs x v = occurs_from x v e in record { ahead = a ∷ rest.ahead; after = rest.after; is = ap (λ t. a ∷ t) rest.is }
]

occurs_here : (x v : List ℕ) → starts_with x v ≡ true → contains x v ≡ true
occurs_here [] v h = h
occurs_here (a ∷ x) v h = or_left _ _ h

occurs_to : (a v r : List ℕ) → contains (a ++ (v ++ r)) v ≡ true
occurs_to [] v r = occurs_here (v ++ r) v (starts_self v r)
occurs_to (c ∷ a) v r = or_right _ _ (occurs_to a v r)

pub occurs_means : (x v : List ℕ) → (contains x v ≡ true) ↔ Occurs x v
occurs_means x v = (occurs_from x v, λ b. subst (λ t. contains t v ≡ true) (sym b.is) (occurs_to b.ahead v b.after))
