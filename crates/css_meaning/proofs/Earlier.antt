-- Walking back to the nearest element sibling before a row.
use Rattle.std.proofs.Common.{◌≡◌, ℕ, ◌-◌, ◌<◌, ◌≤◌, true, false, ◌&&◌, eqb, ltb, length, refl, subst, arith, inl, inr, ◌⊎◌, lt-ltb}
use Rattle.std.specs.Prelude.{not}
use Rattle.std.specs.List.{list_any}
use Rattle.std.proofs.lemmas.Bool.{and_parts, and_from, cases_lt, cases_eq, eqb-true, eq-eqb, ltb-true, false_from_ne_true, both_ways, not-true, not_from_false}
use Rattle.doc_model.specs.Document.{Document, row, rows, is_element, is_parent, below, IsDocument}
use Rattle.doc_model.proofs.Below.{Small, small, below_cases, below_less, below_parent}
use Rattle.doc_model.proofs.Ending.{between}
use Rattle.css_meaning.proofs.Finding.{found, finds}
use Rattle.css_meaning.specs.Siblings.{is_sibling, is_earlier, is_nearest_earlier}

-- z is an element before x that has the parent of x
pub record Earlier (doc : Document) (z x : ℕ) : Type 0 where
  pub element : is_element doc z ≡ true
  pub some : 0 < z
  pub parent : (row doc z).parent ≡ (row doc x).parent
  pub less : z < x

pub earlier : (doc : Document) (z x : ℕ) → is_earlier doc z x ≡ true → Earlier doc z x
earlier doc z x h =
    let a = and_parts (is_sibling doc x z) (ltb z x) h in
    let b = and_parts (is_element doc z) (is_parent doc (row doc x).parent z) a.0 in
    let p = and_parts (ltb 0 z) (eqb (row doc z).parent (row doc x).parent) b.1 in
    record { element = b.0; some = ltb-true 0 z p.0; parent = eqb-true _ _ p.1; less = ltb-true z x a.1 }

pub is_earlier_from : (doc : Document) (z x : ℕ) → Earlier doc z x → is_earlier doc z x ≡ true
is_earlier_from doc z x h =
    and_from _ _ (and_from _ _ h.element (and_from _ _ (lt-ltb 0 z h.some) (eq-eqb _ _ h.parent))) (lt-ltb z x h.less)

-- none between z and x
pub record Nearest (doc : Document) (z x : ℕ) : Type 0 where
  pub earlier : Earlier doc z x
  pub none : (y : ℕ) → is_earlier doc y x ≡ true → y ≤ z

pub nearest : (doc : Document) (z x : ℕ) → x < length doc → is_nearest_earlier doc z x ≡ true → Nearest doc z x
nearest doc z x within h =
    let a = and_parts (is_earlier doc z x) (not (list_any (λ y. is_earlier doc y x && ltb z y) (rows doc))) h in
    record {
      earlier = earlier doc z x a.0;
      none = λ y e. elim (cases_lt z y) [
        | inl l ↦ (let less : y < x = (earlier doc y x e).less in
            absurd (both_ways _ (not-true _ a.1) (finds (λ v. is_earlier doc v x && ltb z v) 0 (length doc) y (omega arith) (omega arith) (and_from _ _ e (lt-ltb z y l)))))
        | inr l ↦ l
      ];
    }

pub is_nearest_from : (doc : Document) (z x : ℕ) → Nearest doc z x → is_nearest_earlier doc z x ≡ true
is_nearest_from doc z x h =
    and_from _ _ (is_earlier_from doc z x h.earlier)
    (not_from_false _ (false_from_ne_true _ (λ t.
    let w = found (λ v. is_earlier doc v x && ltb z v) 0 (length doc) t in
    let two = and_parts (is_earlier doc w.0 x) (ltb z w.0) w.3 in
    let low : w.0 ≤ z = h.none w.0 two.0 in
    let high : z < w.0 = ltb-true z w.0 two.1 in
    omega arith)))

-- ---- the walk from the row before

-- no element sibling of x stands between y and x
abbrev pub NoneAfter : Document → ℕ → ℕ → Type 0
NoneAfter doc y x = (z : ℕ) → is_earlier doc z x ≡ true → z ≤ y

pub none_of_root : (doc : Document) (z : ℕ) → is_earlier doc z 0 ≡ false
none_of_root doc z = false_from_ne_true _ (λ h. let l : z < 0 = (earlier doc z 0 h).less in omega arith)

-- a row that is no element sibling is passed
pub none_past : (doc : Document) (y x : ℕ) → is_element doc y ≡ false → NoneAfter doc y x → NoneAfter doc (y - 1) x
none_past doc y x n h z e =
    let w = earlier doc z x e in
    elim (cases_eq z y) [
      | inl s ↦ absurd (both_ways _ n (subst (λ v. is_element doc v ≡ true) s w.element))
      | inr s ↦ (let l : z ≤ y = h z e in omega arith)
    ]

-- a row between the parent and x is below the parent
inside : (doc : Document) (y x : ℕ) → IsDocument doc → x < length doc → (row doc x).parent < y → y < x → below doc (row doc x).parent y ≡ true
inside doc y x d within low less = between doc (row doc x).parent y x d low (omega arith) within (below_parent doc _ x (small doc d) (omega arith) refl)

-- and its own parent is between, where it is another
pub between_too : (doc : Document) (y x : ℕ) → IsDocument doc → x < length doc → (row doc x).parent < y → y < x → ((row doc y).parent ≡ (row doc x).parent → ⊥) → (row doc x).parent < (row doc y).parent
between_too doc y x d within low less n =
    elim (below_cases doc (row doc x).parent y (small doc d) (inside doc y x d within low less)) [ inl e ↦ absurd (n e) | inr b ↦ below_less doc _ _ (small doc d) b ]

-- no child of a row above the parent of y lies between that parent and y
pub none_under : (doc : Document) (y x : ℕ) → IsDocument doc → x < length doc → (row doc x).parent < y → y < x → ((row doc y).parent ≡ (row doc x).parent → ⊥)
    → NoneAfter doc y x → NoneAfter doc (row doc y).parent x
none_under doc y x d within low less n h z e =
    let m = small doc d in
    let w = earlier doc z x e in
    let le : z ≤ y = h z e in
    let deep : (row doc x).parent < (row doc y).parent = between_too doc y x d within low less n in
    elim (cases_lt (row doc y).parent z) [
      | inl l ↦ absurd (against m w deep (below_cases doc (row doc y).parent z m (between doc (row doc y).parent z y d l le (omega arith) (below_parent doc _ y m (omega arith) refl))))
      | inr l ↦ l
    ]
  where
    against : Small doc → Earlier doc z x → (row doc x).parent < (row doc y).parent → ((row doc z).parent ≡ (row doc y).parent) ⊎ (below doc (row doc y).parent (row doc z).parent ≡ true) → ⊥
    against m w deep (inl s) = let p : (row doc z).parent ≡ (row doc x).parent = w.parent in omega arith
    against m w deep (inr b) =
        let p : (row doc z).parent ≡ (row doc x).parent = w.parent in
        let under : (row doc y).parent < (row doc z).parent = below_less doc _ _ m b in
        omega arith

-- a child of the parent that is an element is the nearest
pub found_here : (doc : Document) (y x : ℕ) → is_element doc y ≡ true → 0 < y → (row doc y).parent ≡ (row doc x).parent → y < x → NoneAfter doc y x → is_nearest_earlier doc y x ≡ true
found_here doc y x e some p less h = is_nearest_from doc y x (record { earlier = record { element = e; some = some; parent = p; less = less }; none = h })

-- none stands at the parent or before it
pub none_left : (doc : Document) (y x : ℕ) → IsDocument doc → y ≤ (row doc x).parent → NoneAfter doc y x → (z : ℕ) → is_earlier doc z x ≡ false
none_left doc y x d low h z = false_from_ne_true _ (λ e.
    let w = earlier doc z x e in
    let le : z ≤ y = h z e in
    let up : (row doc z).parent < z = small doc d z w.some in
    let p : (row doc z).parent ≡ (row doc x).parent = w.parent in
    omega arith)
