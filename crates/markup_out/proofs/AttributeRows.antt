-- The attributes of an element stand directly after it.
use Rattle.std.proofs.Common.{◌≡◌, ℕ, ◌+◌, ◌-◌, ◌<◌, ◌≤◌, List, [], ◌∷◌, ◌++◌, length, Bool, true, false, cond, eqb, sym, ◌∙◌, ap, subst, arith, inl, inr, ◌⊎◌}
use Rattle.std.specs.Prelude.{filter, flat_map}
use Rattle.std.specs.List.{range_with_len}
use Rattle.std.proofs.lemmas.Bool.{and_parts, and_right, or_cases, cases_lt, eqb-true, eq-eqb, both_ways, lt-ltb}
use Rattle.std.proofs.lemmas.List.{append-nil}
use Rattle.std.proofs.lemmas.List.Concat.{flat_map-append}
use Rattle.doc_model.specs.declared.Axis.TheVariants as axis
use Rattle.doc_model.specs.declared.Kind.TheVariants.{Element}
use Rattle.doc_model.specs.Axes.{on_axis}
use Rattle.doc_model.specs.Document.{Document, row, is_parent, is_attribute, is_attribute_kind, IsDocument}
use Rattle.doc_model.proofs.AxisWalks.{attribute_kind, attribute_walk, not_parent, true_and}
use Rattle.doc_model.proofs.Below.{small}
use Rattle.doc_model.proofs.Filters.{upto_more, upto_none, upto_all}
use Rattle.markup_out.specs.inner.Content.{EndsOwn}
use Rattle.markup_out.specs.Markup.{attribute_markup, attributes}

-- the rows after x and before r are attributes of x
abbrev pub AreAttributes : Document → ℕ → ℕ → Type 0
AreAttributes doc x r = (z : ℕ) → x < z → z < r → (is_attribute doc z ≡ true) × ((row doc z).parent ≡ x)

-- those of them that stand before r
abbrev pub attributes_before : Bool → Document → ℕ → ℕ → List ℕ
attributes_before back doc x r = flat_map (attribute_markup back doc) (filter (on_axis doc axis.Attribute x) (range_with_len 0 r))

element_is_none : (doc : Document) (x : ℕ) → (row doc x).kind ≡ Element → is_attribute doc x ≡ true → ⊥
element_is_none doc x e a = both_ways _ (ap is_attribute_kind e) a

-- the row before an attribute is its parent, or an attribute with the same parent
pub before_cases : (doc : Document) (r : ℕ) → IsDocument doc → 0 < r → r < length doc → is_attribute doc r ≡ true
    → ((row doc (row doc r).parent).kind ≡ Element) × (((row doc r).parent ≡ r - 1) ⊎ ((is_attribute doc (r - 1) ≡ true) × ((row doc (r - 1)).parent ≡ (row doc r).parent)))
before_cases doc r d some within a =
    let known = (d.rest r some within).attribute (attribute_kind _ a) in
    (known.1, elim (or_cases _ _ known.2) [ inl e ↦ inl (eqb-true _ _ e) | inr b ↦ inr (let two = and_parts _ _ b in (two.0, eqb-true _ _ two.1)) ])

-- one more
next_attribute : (doc : Document) (x r : ℕ) → IsDocument doc → (row doc x).kind ≡ Element → x < r → r < length doc → AreAttributes doc x r → is_attribute doc r ≡ true → (row doc r).parent ≡ x
next_attribute doc x r d element behind within passed a = from (before_cases doc r d (omega arith) within a) (cases_lt x (r - 1))
  where
    from : ((row doc (row doc r).parent).kind ≡ Element) × (((row doc r).parent ≡ r - 1) ⊎ ((is_attribute doc (r - 1) ≡ true) × ((row doc (r - 1)).parent ≡ (row doc r).parent)))
        → (x < r - 1) ⊎ (r - 1 ≤ x) → (row doc r).parent ≡ x
    from (k, inl e) (inl l) = absurd (element_is_none doc (r - 1) (subst (λ v. (row doc v).kind ≡ Element) e k) (passed (r - 1) l (omega arith)).0)
    from (k, inl e) (inr l) = omega arith
    from (k, inr b) (inl l) = sym b.1 ∙ (passed (r - 1) l (omega arith)).1
    from (k, inr b) (inr l) = let here : r - 1 ≡ x = omega arith in absurd (element_is_none doc x element (subst (λ v. is_attribute doc v ≡ true) here b.0))

pub attributes_start : (back : Bool) (doc : Document) (x r : ℕ) → IsDocument doc → r ≡ x + 1 → attributes_before back doc x r ≡ []
attributes_start back doc x r d e =
    let m = small doc d in
    ap (flat_map (attribute_markup back doc))
    (upto_none (on_axis doc axis.Attribute x) r (λ z l. and_right _ _ (not_parent doc x z (λ some s. let up : (row doc z).parent < z = m z some in omega arith))))

pub attributes_passed : (doc : Document) (x r : ℕ) → IsDocument doc → (row doc x).kind ≡ Element → x < r → r < length doc → AreAttributes doc x r → is_attribute doc r ≡ true → AreAttributes doc x (r + 1)
attributes_passed doc x r d element behind within passed a z l h = elim (cases_lt z r) [
  | inl k ↦ passed z l k
  | inr k ↦ (let here : r ≡ z = omega arith in subst (λ v. (is_attribute doc v ≡ true) × ((row doc v).parent ≡ x)) here (a, next_attribute doc x r d element behind within passed a))
]

one : (f : ℕ → List ℕ) (y : ℕ) (b : Bool) → b ≡ true → flat_map f (cond b (y ∷ []) []) ≡ f y
one f y b e = ap (λ v. flat_map f (cond v (y ∷ []) [])) e ∙ append-nil (f y)

on_attributes : (doc : Document) (x r : ℕ) → 0 < r → is_attribute doc r ≡ true → (row doc r).parent ≡ x → on_axis doc axis.Attribute x r ≡ true
on_attributes doc x r some a e = true_and _ (is_parent doc x r) a ∙ true_and _ (eqb (row doc r).parent x) (lt-ltb 0 r some) ∙ eq-eqb _ _ e

pub attributes_more : (back : Bool) (doc : Document) (x r : ℕ) → IsDocument doc → (row doc x).kind ≡ Element → x < r → r < length doc → AreAttributes doc x r → is_attribute doc r ≡ true
    → attributes_before back doc x (r + 1) ≡ attributes_before back doc x r ++ attribute_markup back doc r
attributes_more back doc x r d element behind within passed a =
    let on = on_attributes doc x r (omega arith) a (next_attribute doc x r d element behind within passed a) in
    ap (flat_map (attribute_markup back doc)) (upto_more (on_axis doc axis.Attribute x) r (r + 1) (omega arith) (λ z k l. absurd (omega (arith, k, l))))
    ∙ flat_map-append (attribute_markup back doc) (filter (on_axis doc axis.Attribute x) (range_with_len 0 r)) (cond (on_axis doc axis.Attribute x r) (r ∷ []) [])
    ∙ ap (λ t. attributes_before back doc x r ++ t) (one (attribute_markup back doc) r (on_axis doc axis.Attribute x r) on)

pub attributes_end : (doc : Document) (x r : ℕ) → x < r → r ≤ length doc → AreAttributes doc x r → (r < length doc → is_attribute doc r ≡ false) → EndsOwn doc x r
attributes_end doc x r behind within passed end = record {
  ends = record { after = behind; within = within; inside = λ y l k. (passed y l k).0; outside = end };
  own = λ z l k. (passed z l k).1;
}

pub attributes_all : (back : Bool) (doc : Document) (x r : ℕ) → IsDocument doc → EndsOwn doc x r → attributes_before back doc x r ≡ flat_map (attribute_markup back doc) (attributes doc x)
attributes_all back doc x r d e =
    let w = attribute_walk doc x r d e.ends in
    ap (flat_map (attribute_markup back doc)) (upto_all (on_axis doc axis.Attribute x) r (length doc) w.ends (λ z l k. w.after z l k))
