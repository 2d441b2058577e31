-- Where the content of a row begins, and where the next row of it stands.
use Rattle.std.proofs.Common.{◌≡◌, ℕ, ◌+◌, ◌-◌, ◌<◌, ◌≤◌, List, [], ◌∷◌, ◌++◌, suc, length, Bool, true, false, ◌&&◌, cond, eqb, refl, sym, ◌∙◌, ap, subst, arith, inl, inr, ◌⊎◌, append_assoc}
use Rattle.std.specs.Prelude.{filter, flat_map, not}
use Rattle.std.specs.List.{range_with_len}
use Rattle.std.proofs.lemmas.Bool.{and_parts, or_cases, cases_lt, eqb-true, eq-eqb, both_ways, false_from_ne_true, lt-ltb}
use Rattle.std.proofs.lemmas.List.{append-nil}
use Rattle.doc_model.specs.declared.Axis.TheVariants as axis
use Rattle.doc_model.specs.declared.Kind.TheVariants.{Root, Element, Attribute, Text, Comment}
use Rattle.doc_model.specs.declared.Kind.{Kind}
use Rattle.doc_model.specs.Axes.{on_axis}
use Rattle.doc_model.specs.Document.{Document, row, below, is_parent, is_attribute, is_attribute_kind, is_text_kind, IsDocument}
use Rattle.doc_model.specs.Ends.{IsEnd}
use Rattle.doc_model.proofs.AxisWalks.{attribute_kind, child_walk, true_and}
use Rattle.doc_model.proofs.Below.{Small, small, below_cases, below_less, below_parent}
use Rattle.doc_model.proofs.Filters.{upto, upto_none, none_in}
use Rattle.markup_out.specs.inner.Content.{before, after, after_of, before_of, content_from, IsNextChild, EndsOwn, Begins}
use Rattle.markup_out.specs.Markup.{children, begins_newline, newline_first, start_tag, newline, end_tag, markup_of, styled}
use Rattle.markup_out.specs.Names.{is_void}
use Rattle.markup_out.proofs.Levels.{child_behind, markup_of_rows}

-- ---- parents

root_is_first : (doc : Document) (x : ℕ) → IsDocument doc → x < length doc → (row doc x).kind ≡ Root → x ≡ 0
root_is_first doc x d h k = elim (cases_lt 0 x) [ inl some ↦ absurd ((d.rest x some h).kind k) | inr none ↦ omega arith ]

is_owner : Kind → Bool
is_owner Root = true
is_owner Element = true
is_owner Attribute = false
is_owner Text = false
is_owner Comment = false

parent_is_owner : (doc : Document) (y : ℕ) → IsDocument doc → 0 < y → y < length doc → is_owner (row doc (row doc y).parent).kind ≡ true
unfolding is_owner
parent_is_owner doc y d some within = elim (d.rest y some within).owner [ inl e ↦ ap is_owner e | inr e ↦ ap is_owner e ]

owner_no_attribute : (k : Kind) → is_owner k ≡ true → is_attribute_kind k ≡ false
unfolding is_owner
owner_no_attribute Root h = refl
owner_no_attribute Element h = refl
owner_no_attribute Attribute h = cc
owner_no_attribute Text h = refl
owner_no_attribute Comment h = refl

parent_no_attribute : (doc : Document) (y : ℕ) → IsDocument doc → 0 < y → y < length doc → is_attribute doc (row doc y).parent ≡ true → ⊥
parent_no_attribute doc y d some within a = both_ways _ (owner_no_attribute _ (parent_is_owner doc y d some within)) a

-- the row before y is its parent, or below its parent
pub nested_cases : (doc : Document) (y : ℕ) → IsDocument doc → 0 < y → y < length doc → ((row doc y).parent ≡ y - 1) ⊎ (below doc (row doc y).parent (y - 1) ≡ true)
nested_cases doc y d some within = elim (or_cases _ _ (d.rest y some within).nested) [ inl e ↦ inl (eqb-true _ _ e) | inr b ↦ inr b ]

pub on_child : (doc : Document) (x y : ℕ) → 0 < y → is_attribute doc y ≡ false → (row doc y).parent ≡ x → on_axis doc axis.Child x y ≡ true
on_child doc x y some a e = true_and _ (is_parent doc x y) (ap not a) ∙ true_and _ (eqb (row doc y).parent x) (lt-ltb 0 y some) ∙ eq-eqb _ _ e

pub child_parent : (doc : Document) (x y : ℕ) → on_axis doc axis.Child x y ≡ true → (row doc y).parent ≡ x
child_parent doc x y h = eqb-true _ _ (and_parts _ _ (and_parts _ _ h).1).1

not_not : (b : Bool) → not b ≡ true → b ≡ false
not_not true h = cc
not_not false h = refl

pub child_no_attribute : (doc : Document) (x y : ℕ) → on_axis doc axis.Child x y ≡ true → is_attribute doc y ≡ false
child_no_attribute doc x y h = not_not _ (and_parts _ _ h).0

-- ---- content

-- the children of x stand from n on
children_from : (doc : Document) (x n : ℕ) → n ≤ length doc → ((z : ℕ) → z < n → on_axis doc axis.Child x z ≡ false) → children doc x ≡ filter (on_axis doc axis.Child x) (range_with_len n (length doc - n))
children_from doc x n h none =
    let p = on_axis doc axis.Child x in
    upto p n (length doc) h ∙ ap (λ v. v ++ filter p (range_with_len n (length doc - n))) (upto_none p n none)

from_here : (back : Bool) (doc : Document) (x n : ℕ) → n ≤ length doc → ((z : ℕ) → z < n → on_axis doc axis.Child x z ≡ false) → flat_map (styled back doc) (children doc x) ≡ content_from back doc x n
from_here back doc x n h none = ap (flat_map (styled back doc)) (children_from doc x n h none)

-- none stands from the end of x on
pub no_content : (back : Bool) (doc : Document) (x e : ℕ) → IsDocument doc → IsEnd doc x e → content_from back doc x e ≡ []
no_content back doc x e d end =
    let w = child_walk doc x e d end in
    ap (flat_map (styled back doc)) (none_in (on_axis doc axis.Child x) (length doc - e) e (λ z l k. w.after z l (omega (arith, k, l))))

no_child_before : (doc : Document) (x z : ℕ) → Small doc → z ≤ x → on_axis doc axis.Child x z ≡ false
no_child_before doc x z m l = false_from_ne_true _ (λ h. let behind : x < z = child_behind doc x z m h in omega arith)

no_child_attribute : (doc : Document) (x z : ℕ) → is_attribute doc z ≡ true → on_axis doc axis.Child x z ≡ false
no_child_attribute doc x z a = false_from_ne_true _ (λ h. both_ways _ (child_no_attribute doc x z h) a)

-- ---- where the content begins

leaf_kind : (back : Bool) (k : Kind) (doc : Document) (x : ℕ) (content : List ℕ) → is_owner k ≡ false → markup_of back k doc x content ≡ before_of back k doc x ++ ([] ++ after_of k doc x)
unfolding is_owner
leaf_kind back Root doc x content h = cc
leaf_kind back Element doc x content h = cc
leaf_kind back Attribute doc x content h = sym (append-nil _)
leaf_kind back Text doc x content h = sym (append-nil _)
leaf_kind back Comment doc x content h = sym (append-nil _)

-- nothing is below a row that is no element and not the root node
leaf_end : (doc : Document) (x : ℕ) → IsDocument doc → x < length doc → is_owner (row doc x).kind ≡ false → IsEnd doc x (x + 1)
leaf_end doc x d h k =
    let m = small doc d in
    record {
      after = omega arith;
      within = omega arith;
      inside = λ y p q. absurd (omega (arith, p, q));
      outside = λ l. false_from_ne_true _ (λ b. elim (below_cases doc x (x + 1) m b) [
        | inl e ↦ both_ways _ k (subst (λ v. is_owner (row doc v).kind ≡ true) e (parent_is_owner doc (x + 1) d (omega arith) l))
        | inr c ↦ (let up : (row doc (x + 1)).parent < x + 1 = m (x + 1) (omega arith) in let deep : x < (row doc (x + 1)).parent = below_less doc x _ m c in absurd (omega arith))
      ]);
    }

begins_leaf : (back : Bool) (doc : Document) (x : ℕ) → IsDocument doc → x < length doc → is_owner (row doc x).kind ≡ false → Begins back doc x (x + 1)
begins_leaf back doc x d h k =
    let end = leaf_end doc x d h k in
    record {
      behind = omega arith;
      within = omega arith;
      next = inr end;
      whole = markup_of_rows back doc x (small doc d) d.some ∙ leaf_kind back (row doc x).kind doc x _ k ∙ ap (λ t. before back doc x ++ (t ++ after doc x)) (sym (no_content back doc x (x + 1) d end));
    }

root_next : (doc : Document) (x : ℕ) → IsDocument doc → x < length doc → (row doc x).kind ≡ Root → (x + 1 < length doc) ⊎ (length doc ≤ x + 1) → IsNextChild doc x (x + 1)
root_next doc x d h k (inl l) =
    let first : x ≡ 0 = root_is_first doc x d h k in
    let up : (row doc (x + 1)).parent < x + 1 = small doc d (x + 1) (omega arith) in
    let parent_is : (row doc (x + 1)).parent ≡ x = omega arith in
    inl (
      on_child doc x (x + 1) (omega arith)
          (false_from_ne_true _ (λ a. let element = ((d.rest (x + 1) (omega arith) l).attribute (attribute_kind _ a)).1 in
          let root : (row doc (row doc (x + 1)).parent).kind ≡ Root = subst (λ v. (row doc v).kind ≡ Root) (sym parent_is) k in (let e = sym root ∙ element in cc)))
          parent_is,
      l,
    )
root_next doc x d h k (inr l) = inr (record {
  after = omega arith;
  within = omega arith;
  inside = λ y p q. absurd (omega (arith, p, q));
  outside = λ q. absurd (omega (arith, q));
})

begins_root : (back : Bool) (doc : Document) (x : ℕ) → IsDocument doc → x < length doc → (row doc x).kind ≡ Root → Begins back doc x (x + 1)
begins_root back doc x d h k =
    let m = small doc d in
    record {
      behind = omega arith;
      within = omega arith;
      next = root_next doc x d h k (cases_lt (x + 1) (length doc));
      whole =
          markup_of_rows back doc x (small doc d) d.some
          ∙ ap (markup_of back (row doc x).kind doc x) (from_here back doc x (x + 1) (omega arith) (λ z l. no_child_before doc x z m (omega (arith, l))))
          ∙ ap (λ j. markup_of back j doc x (content_from back doc x (x + 1))) k
          ∙ sym (append-nil _)
          ∙ ap (λ j. before_of back j doc x ++ (content_from back doc x (x + 1) ++ after_of j doc x)) (sym k);
    }

-- an element with no content
pub begins_void : (back : Bool) (doc : Document) (x e : ℕ) → IsDocument doc → (row doc x).kind ≡ Element → is_void (row doc x).name ≡ true → IsEnd doc x e → Begins back doc x e
begins_void back doc x e d k void end = record {
  behind = end.after;
  within = end.within;
  next = inr end;
  whole =
      markup_of_rows back doc x (small doc d) d.some
      ∙ ap (λ j. markup_of back j doc x (flat_map (styled back doc) (children doc x))) k
      ∙ ap (λ b. start_tag back doc x ++ cond b [] (newline back doc x ++ (flat_map (styled back doc) (children doc x) ++ end_tag doc x))) void
      ∙ sym (append-nil _)
      ∙ ap (λ b. (start_tag back doc x ++ cond b [] (newline back doc x)) ++ cond b [] (end_tag doc x)) (sym void)
      ∙ ap (λ t. (start_tag back doc x ++ cond (is_void (row doc x).name) [] (newline back doc x)) ++ (t ++ cond (is_void (row doc x).name) [] (end_tag doc x))) (sym (no_content back doc x e d end))
      ∙ ap (λ j. before_of back j doc x ++ (content_from back doc x e ++ after_of j doc x)) (sym k);
}

-- the row after the attributes is a child, or nothing more is below
own_parent : (doc : Document) (x e : ℕ) → IsDocument doc → EndsOwn doc x e → e < length doc → below doc x e ≡ true → (row doc e).parent ≡ x
own_parent doc x e d own within b = let behind : x < e = own.ends.after in at (below_cases doc x e (small doc d) b) (nested_cases doc e d (omega arith) within) (cases_lt x (e - 1))
  where
    at : ((row doc e).parent ≡ x) ⊎ (below doc x (row doc e).parent ≡ true) → ((row doc e).parent ≡ e - 1) ⊎ (below doc (row doc e).parent (e - 1) ≡ true) → (x < e - 1) ⊎ (e - 1 ≤ x) → (row doc e).parent ≡ x
    at (inl s) n l = s
    at (inr c) (inl s) (inl l) = absurd (parent_no_attribute doc e d (omega (arith, l)) within (subst (λ v. is_attribute doc v ≡ true) (sym s) (own.ends.inside (e - 1) l (omega (arith, l)))))
    at (inr c) (inl s) (inr l) = let deep : x < (row doc e).parent = below_less doc x _ (small doc d) c in absurd (omega arith)
    at (inr c) (inr n) (inl l) =
        let deep : x < (row doc e).parent = below_less doc x _ (small doc d) c in
        let owned : (row doc (e - 1)).parent ≡ x = own.own (e - 1) l (omega (arith, l)) in
        elim (below_cases doc (row doc e).parent (e - 1) (small doc d) n) [
          | inl s ↦ absurd (omega arith)
          | inr f ↦ (let less : (row doc e).parent < (row doc (e - 1)).parent = below_less doc _ _ (small doc d) f in absurd (omega arith))
        ]
    at (inr c) (inr n) (inr l) =
        let deep : x < (row doc e).parent = below_less doc x _ (small doc d) c in
        let less : (row doc e).parent < e - 1 = below_less doc _ _ (small doc d) n in
        absurd (omega arith)

own_next : (doc : Document) (x e : ℕ) (b : Bool) → IsDocument doc → EndsOwn doc x e → (e < length doc) ⊎ (length doc ≤ e) → below doc x e ≡ b → IsNextChild doc x e
own_next doc x e true d own (inl l) h = let behind : x < e = own.ends.after in inl (on_child doc x e (omega arith) (own.ends.outside l) (own_parent doc x e d own l h), l)
own_next doc x e false d own (inl l) h = let behind : x < e = own.ends.after in inr (record {
  after = behind;
  within = own.ends.within;
  inside = λ y p q. below_parent doc x y (small doc d) (omega (arith, p)) (own.own y p q);
  outside = λ _. h;
})
own_next doc x e b d own (inr l) h = let behind : x < e = own.ends.after in inr (record {
  after = behind;
  within = own.ends.within;
  inside = λ y p q. below_parent doc x y (small doc d) (omega (arith, p)) (own.own y p q);
  outside = λ q. absurd (omega (arith, q, l));
})

no_child_own : (doc : Document) (x e z : ℕ) → IsDocument doc → EndsOwn doc x e → z < e → on_axis doc axis.Child x z ≡ false
no_child_own doc x e z d own l = elim (cases_lt x z) [ inl k ↦ no_child_attribute doc x z (own.ends.inside z k l) | inr k ↦ no_child_before doc x z (small doc d) k ]

-- the first child, or none, directly after the attributes
first_child : (doc : Document) (x e : ℕ) → IsDocument doc → EndsOwn doc x e → on_axis doc axis.Child x e ≡ true → e < length doc
    → children doc x ≡ e ∷ filter (on_axis doc axis.Child x) (range_with_len (e + 1) (length doc - e - 1))
first_child doc x e d own child l =
    let p = on_axis doc axis.Child x in
    let some : length doc - e ≡ suc (length doc - e - 1) = omega (arith, l) in
    children_from doc x e own.ends.within (λ z l. no_child_own doc x e z d own l)
    ∙ ap (λ n. filter p (range_with_len e n)) some
    ∙ ap (λ b. cond b (e ∷ filter p (range_with_len (e + 1) (length doc - e - 1))) (filter p (range_with_len (e + 1) (length doc - e - 1)))) child

no_first : (doc : Document) (x e : ℕ) → IsDocument doc → EndsOwn doc x e → IsEnd doc x e → children doc x ≡ []
no_first doc x e d own end =
    let w = child_walk doc x e d end in
    children_from doc x e own.ends.within (λ z l. no_child_own doc x e z d own l) ∙ none_in (on_axis doc axis.Child x) (length doc - e) e (λ z l k. w.after z l (omega (arith, k, l)))

pub newline_some : (doc : Document) (x e : ℕ) → IsDocument doc → EndsOwn doc x e → e < length doc → (row doc e).parent ≡ x → (row doc e).kind ≡ Text → newline_first doc (children doc x) ≡ begins_newline (row doc e).text
newline_some doc x e d own l parent text =
    let behind : x < e = own.ends.after in
    ap (newline_first doc) (first_child doc x e d own (on_child doc x e (omega arith) (own.ends.outside l) parent) l) ∙ ap (λ k. is_text_kind k && begins_newline (row doc e).text) text

pub newline_none : (doc : Document) (x e : ℕ) → IsDocument doc → EndsOwn doc x e → (e < length doc → (row doc e).parent ≡ x → (row doc e).kind ≡ Text → ⊥) → newline_first doc (children doc x) ≡ false
newline_none doc x e d own other = from (own_next doc x e (below doc x e) d own (cases_lt e (length doc)) refl)
  where
    no_text : (k : Kind) → (k ≡ Text → ⊥) → is_text_kind k ≡ false
    no_text Root h = refl
    no_text Element h = refl
    no_text Attribute h = refl
    no_text Text h = absurd (h refl)
    no_text Comment h = refl

    from : IsNextChild doc x e → newline_first doc (children doc x) ≡ false
    from (inl k) = ap (newline_first doc) (first_child doc x e d own k.0 k.1) ∙ ap (λ b. b && begins_newline (row doc e).text) (no_text (row doc e).kind (other k.1 (child_parent doc x e k.0)))
    from (inr end) = ap (newline_first doc) (no_first doc x e d own end)

-- an element with content
pub begins_element : (back : Bool) (doc : Document) (x e : ℕ) → IsDocument doc → (row doc x).kind ≡ Element → is_void (row doc x).name ≡ false → EndsOwn doc x e → Begins back doc x e
begins_element back doc x e d k open_end own = record {
  behind = own.ends.after;
  within = own.ends.within;
  next = own_next doc x e (below doc x e) d own (cases_lt e (length doc)) refl;
  whole =
      markup_of_rows back doc x (small doc d) d.some
      ∙ ap (λ j. markup_of back j doc x (flat_map (styled back doc) (children doc x))) k
      ∙ ap (λ t. start_tag back doc x ++ cond (is_void (row doc x).name) [] (newline back doc x ++ (t ++ end_tag doc x))) (from_here back doc x e own.ends.within (λ z l. no_child_own doc x e z d own l))
      ∙ ap (λ b. start_tag back doc x ++ cond b [] (newline back doc x ++ (content_from back doc x e ++ end_tag doc x))) open_end
      ∙ sym (append_assoc (start_tag back doc x) (newline back doc x) (content_from back doc x e ++ end_tag doc x))
      ∙ ap (λ b. (start_tag back doc x ++ cond b [] (newline back doc x)) ++ (content_from back doc x e ++ cond b [] (end_tag doc x))) (sym open_end)
      ∙ ap (λ j. before_of back j doc x ++ (content_from back doc x e ++ after_of j doc x)) (sym k);
}

-- every other row
pub begins_other : (back : Bool) (doc : Document) (x : ℕ) (k : Kind) → IsDocument doc → x < length doc → (row doc x).kind ≡ k → (k ≡ Element → ⊥) → Begins back doc x (x + 1)
unfolding is_owner
begins_other back doc x Root d h e n = begins_root back doc x d h e
begins_other back doc x Element d h e n = absurd (n refl)
begins_other back doc x Attribute d h e n = begins_leaf back doc x d h (ap is_owner e)
begins_other back doc x Text d h e n = begins_leaf back doc x d h (ap is_owner e)
begins_other back doc x Comment d h e n = begins_leaf back doc x d h (ap is_owner e)
