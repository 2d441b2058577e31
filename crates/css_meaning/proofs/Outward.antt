-- The measure of a search falls, and what stands farther out or earlier.
use Rattle.std.proofs.Common.{◌≡◌, ℕ, suc, ◌+◌, ◌*◌, ◌<◌, ◌≤◌, true, sym, ◌∙◌, subst, arith, inl, inr, ◌⊎◌}
use Rattle.std.specs.Prelude.{max}
use Rattle.std.proofs.Math.Nat.{mul-le-mul_right}
use Rattle.std.proofs.lemmas.Bool.{and_parts, and_from, cases_lt, eqb-true, eq-eqb, ltb-true}
use Rattle.std.proofs.Common.{lt-ltb, refl}
use Rattle.doc_model.specs.Document.{Document, row, is_parent, below}
use Rattle.doc_model.proofs.Below.{Small, below_cases, below_parent, below_trans}
use Rattle.css_meaning.proofs.Earlier.{Earlier, is_earlier_from, Nearest}
use Rattle.css_meaning.specs.inner.Searching.{is_outer}

-- ---- the measure falls

pub no_higher : (p q w k l : ℕ) → p ≤ q → k ≤ l → p * w + k ≤ q * w + l
no_higher p q w k l h le = omega (arith, mul-le-mul_right w h, le)

pub higher : (p q w k l : ℕ) → p < q → k < w → p * w + k < q * w + l
higher p q w k l h less = let le : suc p * w ≤ q * w = mul-le-mul_right w (omega arith) in omega arith

pub falls : (p q w k l : ℕ) → p ≤ q → k < l → p * w + k < q * w + l
falls p q w k l h less = omega (arith, mul-le-mul_right w h, less)

-- by its parts
pub falls_left : (a b c e n w k l : ℕ) → e ≤ c → k < l → (max a (max b e) * n + max b e) * w + k < (max a (max b c) * n + max b c) * w + l
falls_left a b c e n w k l h less =
    falls (max a (max b e) * n + max b e) (max a (max b c) * n + max b c) w k l (no_higher (max a (max b e)) (max a (max b c)) n (max b e) (max b c) (omega arith) (omega arith)) less

-- by its row among the siblings
pub falls_within : (a b c f e n w k l : ℕ) → max f e < max b c → k < w → (max a (max f e) * n + max f e) * w + k < (max a (max b c) * n + max b c) * w + l
falls_within a b c f e n w k l h less =
    higher (max a (max f e) * n + max f e) (max a (max b c) * n + max b c) w k l (falls (max a (max f e)) (max a (max b c)) n (max f e) (max b c) (omega arith) h) less

-- by the row above
pub falls_up : (a b c g f e n w k l : ℕ) → max g (max f e) < max a (max b c) → max f e < n → k < w → (max g (max f e) * n + max f e) * w + k < (max a (max b c) * n + max b c) * w + l
falls_up a b c g f e n w k l h within less =
    higher (max g (max f e) * n + max f e) (max a (max b c) * n + max b c) w k l (higher (max g (max f e)) (max a (max b c)) n (max f e) (max b c) h within) less

-- ---- farther out

-- a row above another is farther out
pub above_outer : (doc : Document) (z x : ℕ) → Small doc → 0 < z → below doc z x ≡ true → is_outer doc z x ≡ true
above_outer doc z x m p b =
    let up : below doc (row doc z).parent z ≡ true = below_parent doc _ z m p refl in
    elim (below_cases doc z x m b) [ inl e ↦ subst (λ v. below doc (row doc z).parent v ≡ true) (sym e) up | inr c ↦ below_trans doc _ z _ m up c ]

-- only the parents count
pub outer_same : (doc : Document) (z w x y : ℕ) → (row doc w).parent ≡ (row doc z).parent → (row doc y).parent ≡ (row doc x).parent → is_outer doc z x ≡ true → is_outer doc w y ≡ true
outer_same doc z w x y e f h = subst (λ v. below doc v (row doc y).parent ≡ true) (sym e) (subst (λ v. below doc (row doc z).parent v ≡ true) (sym f) h)

-- an ancestor of a row farther out is above the parent
pub over_outer : (doc : Document) (z y x : ℕ) → Small doc → is_outer doc z x ≡ true → below doc y z ≡ true → below doc y (row doc x).parent ≡ true
over_outer doc z y x m h b = elim (below_cases doc y z m b) [ inl e ↦ subst (λ v. below doc v (row doc x).parent ≡ true) e h | inr c ↦ below_trans doc y _ _ m c h ]

-- a row above x is its parent or above it
pub above_parent : (doc : Document) (y x : ℕ) → Small doc → below doc y x ≡ true → (y ≡ (row doc x).parent) ⊎ (below doc y (row doc x).parent ≡ true)
above_parent doc y x m b = elim (below_cases doc y x m b) [ inl e ↦ inl (sym e) | inr c ↦ inr c ]

pub is_parent_of : (doc : Document) (y x : ℕ) → is_parent doc y x ≡ true → (0 < x) × ((row doc x).parent ≡ y)
is_parent_of doc y x h = let two = and_parts _ _ h in (ltb-true 0 x two.0, eqb-true _ _ two.1)

pub is_parent_from : (doc : Document) (x : ℕ) → 0 < x → is_parent doc (row doc x).parent x ≡ true
is_parent_from doc x p = and_from _ _ (lt-ltb 0 x p) (eq-eqb (row doc x).parent _ refl)

-- ---- siblings

pub earlier_trans : (doc : Document) (y w x : ℕ) → Earlier doc y w → Earlier doc w x → Earlier doc y x
earlier_trans doc y w x h k = record { element = h.element; some = h.some; parent = h.parent ∙ k.parent; less = (let a : y < w = h.less in let b : w < x = k.less in omega arith) }

-- an earlier sibling of an earlier sibling is earlier than the nearest
pub before_nearest : (doc : Document) (y w n x : ℕ) → Earlier doc y w → Earlier doc w x → Nearest doc n x → Earlier doc y n
before_nearest doc y w n x h k near =
    let le : w ≤ n = near.none w (is_earlier_from doc w x k) in
    let less : y < w = h.less in
    record { element = h.element; some = h.some; parent = h.parent ∙ (k.parent ∙ sym near.earlier.parent); less = omega arith }

-- an earlier sibling is the nearest or earlier than it
pub at_nearest : (doc : Document) (y n x : ℕ) → Earlier doc y x → Nearest doc n x → (y ≡ n) ⊎ Earlier doc y n
at_nearest doc y n x h near =
    let le : y ≤ n = near.none y (is_earlier_from doc y x h) in
    elim (cases_lt y n) [
      | inl l ↦ inr (record { element = h.element; some = h.some; parent = h.parent ∙ sym near.earlier.parent; less = l })
      | inr l ↦ inl (omega arith)
    ]

pub one_nearest : (doc : Document) (y n x : ℕ) → Nearest doc y x → Nearest doc n x → y ≡ n
one_nearest doc y n x h k =
    let a : y ≤ n = k.none y (is_earlier_from doc y x h.earlier) in
    let b : n ≤ y = h.none n (is_earlier_from doc n x k.earlier) in
    omega arith
