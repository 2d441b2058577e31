-- Which rows each axis is looked for in.
use Rattle.std.proofs.Common.{◌≡◌, ℕ, zero, suc, ◌+◌, ◌-◌, ◌<◌, ◌≤◌, length, Bool, true, false, ◌&&◌, ◌||◌, eqb, ltb, refl, sym, ◌∙◌, ap, subst, arith, inl, inr, ◌⊎◌, lt-ltb}
use Rattle.std.specs.Prelude.{not}
use Rattle.std.proofs.lemmas.Bool.{or_cases, and_parts, and_left, and_right, or_from, or_left, cases_lt, eqb-true, eq-eqb, ne_eqb, le-ltb, ltb-true, both_ways, false_from_ne_true, not_from_true}
use Rattle.text_base.proofs.Swaps.{flip}
use Rattle.doc_model.specs.declared.Kind.{Kind}
use Rattle.doc_model.specs.declared.Kind.TheVariants.{Root, Element, Attribute, Text, Comment}
use Rattle.doc_model.specs.declared.Axis.{Axis}
use Rattle.doc_model.specs.declared.Axis.TheVariants as axis
use Rattle.doc_model.specs.Document.{Document, row, is_parent, is_attribute, is_attribute_kind, below, IsDocument}
use Rattle.doc_model.specs.Axes.{on_axis, are_siblings}
use Rattle.doc_model.specs.Ends.{IsEnd}
use Rattle.doc_model.specs.inner.Walks.{IsWalk, EndsAttributes}
use Rattle.doc_model.proofs.Below.{Small, small, below_cases, below_less, below_parent, past_end, not_up}

-- ---- tests

pub attribute_kind : (k : Kind) → is_attribute_kind k ≡ true → k ≡ Attribute
attribute_kind Attribute h = refl
attribute_kind Root h = cc
attribute_kind Element h = cc
attribute_kind Text h = cc
attribute_kind Comment h = cc

pub not_parent : (doc : Document) (x y : ℕ) → (0 < y → (row doc y).parent ≡ x → ⊥) → is_parent doc x y ≡ false
not_parent doc x y never = false_from_ne_true _ (λ h. let two = and_parts _ _ h in never (ltb-true 0 y two.0) (eqb-true _ _ two.1))

pub and_true : (a b : Bool) → b ≡ true → (a && b) ≡ a
and_true true b h = h
and_true false b h = refl

pub true_and : (a b : Bool) → a ≡ true → (a && b) ≡ b
true_and a b h = ap (λ v. v && b) h

not_false : (b : Bool) → b ≡ false → not b ≡ true
not_false b h = ap not h

-- the parent of a row below y is y or stands after it
pub parent_from : (doc : Document) (y z : ℕ) → Small doc → below doc y z ≡ true → y ≤ (row doc z).parent
parent_from doc y z m h = elim (below_cases doc y z m h) [ inl e ↦ omega arith | inr b ↦ (let l : y < (row doc z).parent = below_less doc y (row doc z).parent m b in omega arith) ]

-- ---- below the row

pub child_walk : (doc : Document) (x e : ℕ) → IsDocument doc → IsEnd doc x e → IsWalk doc axis.Child x (x + 1) e true
child_walk doc x e d end = let m = small doc d in record {
  starts = omega (arith, end.after, end.within);
  ends = end.within;
  before = λ y l. and_right _ _ (not_parent doc x y (λ some s. let up : (row doc y).parent < y = m y some in omega arith));
  after = λ y l k. and_right _ _ (not_parent doc x y (λ some s. both_ways _ (past_end doc x e y d end l k) (below_parent doc x y m some s)));
  within = λ y l k. ap (λ b. not (is_attribute doc y) && b) (true_and _ _ (lt-ltb 0 y (omega arith)));
  over = λ h y z l k b. and_right _ _ (not_parent doc x z (λ some s. let up : y ≤ (row doc z).parent = parent_from doc y z m b in omega arith));
}

pub descendant_walk : (doc : Document) (x e : ℕ) → IsDocument doc → IsEnd doc x e → IsWalk doc axis.Descendant x (x + 1) e false
descendant_walk doc x e d end = record {
  starts = omega (arith, end.after, end.within);
  ends = end.within;
  before = λ y l. and_right _ _ (not_up doc x y (small doc d) (omega arith));
  after = λ y l k. and_right _ _ (past_end doc x e y d end l k);
  within = λ y l k. and_true _ _ (end.inside y (omega arith) k);
  over = λ h. cc;
}

pub descendant_or_self_walk : (doc : Document) (x e : ℕ) → IsDocument doc → IsEnd doc x e → IsWalk doc axis.DescendantOrSelf x x e false
descendant_or_self_walk doc x e d end =
    let behind : x < e = end.after in
    record {
      starts = omega (arith, end.after, end.within);
      ends = end.within;
      before = λ y l. or_from _ _ (ne_eqb y x (λ s. omega arith)) (and_right _ _ (not_up doc x y (small doc d) (omega arith)));
      after = λ y l k. or_from _ _ (ne_eqb y x (λ s. omega arith)) (and_right _ _ (past_end doc x e y d end l k));
      within = λ y l k. elim (cases_lt x y) [
        | inl h ↦ ap (λ b. eqb y x || b) (and_true _ _ (end.inside y h k))
        | inr h ↦ (let here : eqb y x ≡ true = eq-eqb y x (omega arith) in or_left _ _ here ∙ sym (or_left _ _ here))
      ];
      over = λ h. cc;
    }

-- ---- the parent

pub parent_walk : (doc : Document) (x p : ℕ) → IsDocument doc → 0 < x → x < length doc → p ≡ (row doc x).parent → IsWalk doc axis.Parent x p (p + 1) false
parent_walk doc x p d some h e = let up : (row doc x).parent < x = small doc d x some in record {
  starts = omega arith;
  ends = omega arith;
  before = λ y l. and_right _ _ (ne_eqb (row doc x).parent y (λ s. omega arith));
  after = λ y l k. and_right _ _ (ne_eqb (row doc x).parent y (λ s. omega arith));
  within = λ y l k. true_and _ _ (lt-ltb 0 x some) ∙ eq-eqb (row doc x).parent y (omega arith);
  over = λ h. cc;
}

pub no_parent : (doc : Document) (y : ℕ) → on_axis doc axis.Parent 0 y ≡ false
no_parent doc y = refl

-- ---- attributes

-- after a row that is no attribute the element has none
past_attributes : (k : ℕ) (doc : Document) (x e : ℕ) → IsDocument doc → EndsAttributes doc x e → e + k < length doc → (row doc (e + k)).kind ≡ Attribute → (row doc (e + k)).parent ≡ x → ⊥
past_attributes zero doc x e d end l a p =
    let z : e + 0 ≡ e = omega arith in
    both_ways _ (end.outside (omega arith)) (ap is_attribute_kind (subst (λ v. (row doc v).kind ≡ Attribute) z a))
past_attributes (suc k) doc x e d end l a p =
    let y : ℕ = e + suc k in
    let before : y - 1 ≡ e + k = omega arith in
    let behind : x < e = end.after in
    from before behind (past_attributes k doc x e d end (omega arith)) (or_cases _ _ ((d.rest y (omega arith) l).attribute a).2)
  where
    from : e + suc k - 1 ≡ e + k → x < e → ((row doc (e + k)).kind ≡ Attribute → (row doc (e + k)).parent ≡ x → ⊥)
        → (eqb (row doc (e + suc k)).parent (e + suc k - 1) ≡ true) ⊎ ((is_attribute doc (e + suc k - 1) && eqb (row doc (e + suc k - 1)).parent (row doc (e + suc k)).parent) ≡ true) → ⊥
    from before behind next (inl s) = let q : (row doc (e + suc k)).parent ≡ e + suc k - 1 = eqb-true _ _ s in omega arith
    from before behind next (inr b) =
        let two = and_parts _ _ b in
        next (attribute_kind _ (subst (λ v. is_attribute doc v ≡ true) before two.0)) (subst (λ v. (row doc v).parent ≡ x) before (eqb-true _ _ two.1 ∙ p))

pub attribute_walk : (doc : Document) (x e : ℕ) → IsDocument doc → EndsAttributes doc x e → IsWalk doc axis.Attribute x (x + 1) e false
attribute_walk doc x e d end = let m = small doc d in record {
  starts = omega (arith, end.after, end.within);
  ends = end.within;
  before = λ y l. and_right _ _ (not_parent doc x y (λ some s. let up : (row doc y).parent < y = m y some in omega arith));
  after = λ y l k. false_from_ne_true _ (λ h. let two = and_parts _ _ h in
      let s : y ≡ e + (y - e) = omega arith in
      past_attributes (y - e) doc x e d end (omega arith) (subst (λ v. (row doc v).kind ≡ Attribute) s (attribute_kind (row doc y).kind two.0))
      (subst (λ v. (row doc v).parent ≡ x) s (eqb-true _ _ (and_parts _ _ two.1).1)));
  within = λ y l k. ap (λ b. is_attribute doc y && b) (true_and _ _ (lt-ltb 0 y (omega arith)));
  over = λ h. cc;
}

-- ---- rows that are no ancestors or descendants

pub following_walk : (doc : Document) (x e : ℕ) → IsDocument doc → IsEnd doc x e → IsWalk doc axis.Following x e (length doc) false
following_walk doc x e d end =
    let behind : x < e = end.after in
    record {
      starts = omega arith;
      ends = omega arith;
      before = λ y l. elim (cases_lt x y) [ inl h ↦ and_right _ _ (and_left _ _ (not_from_true _ (end.inside y h l))) | inr h ↦ and_left _ _ (le-ltb x y h) ];
      after = λ y l k. absurd (omega arith);
      within = λ y l k. true_and _ _ (lt-ltb x y (omega arith)) ∙ true_and _ _ (not_false _ (past_end doc x e y d end l k));
      over = λ h. cc;
    }

-- ---- siblings

-- two rows that may be siblings are so where they have one parent
siblings : (doc : Document) (x y : ℕ) → 0 < x → 0 < y → is_attribute doc x ≡ false → are_siblings doc x y ≡ (not (is_attribute doc y) && eqb (row doc y).parent (row doc x).parent)
siblings doc x y p q a =
    true_and _ _ (lt-ltb 0 x p) ∙ true_and _ _ (lt-ltb 0 y q) ∙ true_and _ _ (not_false _ a) ∙ ap (λ b. not (is_attribute doc y) && b) (flip (row doc x).parent (row doc y).parent)

-- rows with other parents are no siblings
apart : (doc : Document) (x y : ℕ) → (0 < y → (row doc y).parent ≡ (row doc x).parent → ⊥) → are_siblings doc x y ≡ false
apart doc x y never =
    let one = eqb (row doc x).parent (row doc y).parent in
    let all = ltb 0 y && (not (is_attribute doc x) && (not (is_attribute doc y) && one)) in
    and_right (ltb 0 x) all (false_from_ne_true all (λ h.
    let two = and_parts (ltb 0 y) (not (is_attribute doc x) && (not (is_attribute doc y) && one)) h in
    let three = and_parts (not (is_attribute doc x)) (not (is_attribute doc y) && one) two.1 in
    let four = and_parts (not (is_attribute doc y)) one three.1 in
    never (ltb-true 0 y two.0) (sym (eqb-true _ _ four.1))))

pub following_sibling_walk : (doc : Document) (x e p q : ℕ) → IsDocument doc → 0 < x → is_attribute doc x ≡ false → IsEnd doc x e → p ≡ (row doc x).parent → IsEnd doc p q → IsWalk doc axis.FollowingSibling x e q true
following_sibling_walk doc x e p q d some a end s outer =
    let m = small doc d in
    let up : (row doc x).parent < x = m x some in
    let behind : x < e = end.after in
    record {
      starts = omega arith;
      ends = outer.within;
      before = λ y l. elim (cases_lt x y) [
        | inl h ↦ and_left _ _ (apart doc x y (λ k t. let deep : x ≤ (row doc y).parent = parent_from doc x y m (end.inside y h l) in omega arith))
        | inr h ↦ and_right _ _ (le-ltb x y h)
      ];
      after = λ y l k. and_left _ _ (apart doc x y (λ h t. both_ways _ (past_end doc p q y d outer l k) (below_parent doc p y m h (t ∙ sym s))));
      within = λ y l k. and_true _ _ (lt-ltb x y (omega arith)) ∙ siblings doc x y some (omega arith) a;
      over = λ h y z l k b. and_left _ _ (apart doc x z (λ n t. let deep : y ≤ (row doc z).parent = parent_from doc y z m b in omega arith));
    }

pub preceding_sibling_walk : (doc : Document) (x p : ℕ) → IsDocument doc → 0 < x → x < length doc → is_attribute doc x ≡ false → p ≡ (row doc x).parent → IsWalk doc axis.PrecedingSibling x (p + 1) x true
preceding_sibling_walk doc x p d some h a s =
    let m = small doc d in
    record {
      starts = omega arith;
      ends = omega arith;
      before = λ y l. and_left _ _ (apart doc x y (λ n t. let up : (row doc y).parent < y = m y n in omega arith));
      after = λ y l k. and_right _ _ (le-ltb y x l);
      within = λ y l k. and_true _ _ (lt-ltb y x k) ∙ siblings doc x y some (omega arith) a;
      over = λ n y z l k b. and_left _ _ (apart doc x z (λ o t. let deep : y ≤ (row doc z).parent = parent_from doc y z m b in omega arith));
    }

-- ---- as the code says it

pub moved : (doc : Document) (a other : Axis) (x from start to : ℕ) (hops leaps : Bool) → IsWalk doc a x from to hops → other ≡ a → start ≡ from → leaps ≡ hops → IsWalk doc other x start to leaps
moved doc a other x from start to hops leaps w e p q =
    subst (λ v. IsWalk doc v x start to leaps) (sym e) (subst (λ v. IsWalk doc a x v to leaps) (sym p) (subst (λ v. IsWalk doc a x from to v) (sym q) w))

pub positive : (x : ℕ) → (x ≡ 0 → ⊥) → 0 < x
positive zero h = absurd (h refl)
positive (suc x) h = omega arith
