-- Children that are counted row by row.
use Rattle.std.proofs.Common.{◌≡◌, ℕ, zero, suc, ◌+◌, ◌-◌, ◌<◌, ◌≤◌, length, Bool, true, false, ◌&&◌, cond, eqb, List, [], ◌∷◌, ◌++◌, get_or, refl, sym, ◌∙◌, ap, arith, inl, inr, subst, Result, Ok, Err, lt-ltb}
use Rattle.std.specs.Prelude.{filter, OnOk}
use Rattle.std.specs.List.{range_with_len}
use Rattle.std.proofs.Math.ListN.{set}
use Rattle.std.proofs.lemmas.Bool.{and_left, and_right, cases_eq, cases_lt, eq-eqb, both_ways}
use Rattle.std.proofs.lemmas.List.{length-append, length-set, get_or_append_left, get_or_push, get_or-set_same, get_or-set_other}
use Rattle.doc_model.specs.declared.Kind.{Kind}
use Rattle.doc_model.specs.declared.Kind.TheVariants.{Root, Element, Attribute, Text, Comment}
use Rattle.doc_model.specs.Document.{Document, row, is_element, is_element_kind, is_parent, IsDocument}
use Rattle.doc_model.proofs.AxisWalks.{not_parent}
use Rattle.doc_model.proofs.Below.{small}
use Rattle.doc_model.proofs.Filters.{upto, upto_more, upto_none}
use Rattle.doc_model.proofs.WalkSteps.{one_if}
use Rattle.step_index.proofs.Places.{filter_le}
use Rattle.step_index.specs.Siblings.{children_before, HasChildren}

-- one row more
pub children_more : (doc : Document) (e : ℕ → Bool) (p y : ℕ) → children_before doc e p (y + 1) ≡ children_before doc e p y + cond (e y && is_parent doc p y) 1 0
children_more doc e p y =
    ap (λ (v : List ℕ). length v) (upto_more (λ z. e z && is_parent doc p z) y (y + 1) (omega arith) (λ z l k. absurd (omega (arith, l, k))))
    ∙ one_if (e y && is_parent doc p y) (filter (λ z. e z && is_parent doc p z) (range_with_len 0 y)) y

-- none of them stands before its parent or is it
pub no_children : (doc : Document) (e : ℕ → Bool) (p : ℕ) → IsDocument doc → children_before doc e p (p + 1) ≡ 0
no_children doc e p d =
    ap (λ (v : List ℕ). length v)
    (upto_none (λ z. e z && is_parent doc p z) (p + 1) (λ z l. and_right _ _ (not_parent doc p z (λ some s. let up : (row doc z).parent < z = small doc d z some in omega (arith, l, up, s)))))

pub one_child : (doc : Document) (e : ℕ → Bool) (p y : ℕ) → 0 < y → e y ≡ true → p ≡ (row doc y).parent → children_before doc e p (y + 1) ≡ children_before doc e p y + 1
one_child doc e p y some h s =
    children_more doc e p y
    ∙ ap (λ b. children_before doc e p y + cond b 1 0) (ap (λ b. b && is_parent doc p y) h ∙ ap (λ b. b && eqb (row doc y).parent p) (lt-ltb 0 y some) ∙ eq-eqb _ _ (sym s))

pub other_child : (doc : Document) (e : ℕ → Bool) (p y : ℕ) → ((row doc y).parent ≡ p → ⊥) → children_before doc e p (y + 1) ≡ children_before doc e p y
other_child doc e p y n =
    let none : children_before doc e p (y + 1) ≡ children_before doc e p y + 0 = children_more doc e p y
    ∙ ap (λ b. children_before doc e p y + cond b 1 0) (and_right (e y) (is_parent doc p y) (not_parent doc p y (λ some s. n s))) in
    omega (arith, none)

pub no_child : (doc : Document) (e : ℕ → Bool) (p y : ℕ) → e y ≡ false → children_before doc e p (y + 1) ≡ children_before doc e p y
no_child doc e p y h =
    let none : children_before doc e p (y + 1) ≡ children_before doc e p y + 0 = children_more doc e p y
    ∙ ap (λ b. children_before doc e p y + cond b 1 0) (and_left (e y) (is_parent doc p y) h) in
    omega (arith, none)

pub some_element : (doc : Document) (y : ℕ) → IsDocument doc → is_element doc y ≡ true → 0 < y
some_element doc zero d e = absurd (both_ways _ (ap (λ r. is_element_kind r.kind) d.root) e)
some_element doc (suc y) d e = omega arith

-- ---- the table

-- a rank that was put last
rank_more : (doc : Document) (ranks : List ℕ) (b r : ℕ) → length ranks ≡ b → (is_element doc b ≡ true → r ≡ children_before doc (is_element doc) (row doc b).parent b)
    → ((y : ℕ) → y < b → is_element doc y ≡ true → get_or ranks y 0 ≡ children_before doc (is_element doc) (row doc y).parent y)
    → (y : ℕ) → y < b + 1 → is_element doc y ≡ true → get_or (ranks ++ r ∷ []) y 0 ≡ children_before doc (is_element doc) (row doc y).parent y
rank_more doc ranks b r n h old y l e =
    elim (cases_lt y b) [
      | inl k ↦ get_or_append_left ranks (r ∷ []) 0 y (omega (arith, n, k)) ∙ old y k e
      | inr k ↦ (let s : b ≡ y = omega (arith, k, l) in get_or_push ranks r 0 y (n ∙ s) ∙ h (ap (is_element doc) s ∙ e) ∙ ap (λ v. children_before doc (is_element doc) (row doc v).parent v) s)
    ]

-- a count of 0 that was put last, of a row that has no children yet
count_more : (doc : Document) (counts : List ℕ) (b : ℕ) → IsDocument doc → length counts ≡ b
    → ((p : ℕ) → p < b → get_or counts p 0 ≡ children_before doc (is_element doc) p (b + 1))
    → (p : ℕ) → p < b + 1 → get_or (counts ++ 0 ∷ []) p 0 ≡ children_before doc (is_element doc) p (b + 1)
count_more doc counts b d n old p l =
    elim (cases_lt p b) [
      | inl k ↦ get_or_append_left counts (0 ∷ []) 0 p (omega (arith, n, k)) ∙ old p k
      | inr k ↦ (let s : b ≡ p = omega (arith, k, l) in get_or_push counts 0 0 p (n ∙ s) ∙ sym (ap (λ v. children_before doc (is_element doc) p (v + 1)) s ∙ no_children doc (is_element doc) p d))
    ]

pub other_row : (doc : Document) (ranks counts : List ℕ) (b : ℕ) → IsDocument doc → is_element doc b ≡ false → HasChildren doc ranks counts b → HasChildren doc (ranks ++ 0 ∷ []) (counts ++ 0 ∷ []) (b + 1)
other_row doc ranks counts b d e t = record {
  ranked = omega (arith, length-append ranks (0 ∷ []), t.ranked);
  counted = omega (arith, length-append counts (0 ∷ []), t.counted);
  rank = rank_more doc ranks b 0 t.ranked (λ h. absurd (both_ways _ e h)) t.rank;
  count = count_more doc counts b d t.counted (λ p l. t.count p l ∙ sym (no_child doc (is_element doc) p b e));
}

pub element_row : (doc : Document) (ranks counts : List ℕ) (b p r : ℕ) → IsDocument doc → is_element doc b ≡ true → p ≡ (row doc b).parent → r ≡ get_or counts p 0 → HasChildren doc ranks counts b
    → HasChildren doc (ranks ++ r ∷ []) (set counts p (r + 1) ++ 0 ∷ []) (b + 1)
element_row doc ranks counts b p r d e s v t =
    let some : 0 < b = some_element doc b d e in
    let up : (row doc b).parent < b = small doc d b some in
    let before : p < b = omega (arith, up, s) in
    let now : r ≡ children_before doc (is_element doc) p b = v ∙ t.count p before in
    record {
      ranked = omega (arith, length-append ranks (r ∷ []), t.ranked);
      counted = omega (arith, length-append (set counts p (r + 1)) (0 ∷ []), length-set counts p (r + 1), t.counted);
      rank = rank_more doc ranks b r t.ranked (λ h. now ∙ ap (λ q. children_before doc (is_element doc) q b) s) t.rank;
      count = count_more doc (set counts p (r + 1)) b d (length-set counts p (r + 1) ∙ t.counted) (λ q l. elim (cases_eq q p) [
        | inl i ↦ ap (λ m. get_or (set counts p (r + 1)) m 0) i ∙ get_or-set_same counts p (r + 1) 0 (omega (arith, before, t.counted)) ∙ ap (λ m. m + 1) now
            ∙ sym (ap (λ m. children_before doc (is_element doc) m (b + 1)) i ∙ one_child doc (is_element doc) p b some e s)
        | inr i ↦ get_or-set_other counts p q (r + 1) 0 i ∙ t.count q l ∙ sym (other_child doc (is_element doc) q b (λ o. i (sym o ∙ sym s)))
      ]);
    }

pub small_count : (doc : Document) (ranks counts : List ℕ) (b p : ℕ) → HasChildren doc ranks counts b → p < b → get_or counts p 0 ≤ b
small_count doc ranks counts b p t l = omega (arith, t.count p l, filter_le (λ z. is_element doc z && is_parent doc p z) b 0)

pub parent_within : (doc : Document) (ranks counts : List ℕ) (b p : ℕ) → IsDocument doc → is_element doc b ≡ true → p ≡ (row doc b).parent → HasChildren doc ranks counts b → p < length counts
parent_within doc ranks counts b p d e s t = let up : (row doc b).parent < b = small doc d b (some_element doc b d e) in omega (arith, up, s, t.counted)

pub room : (doc : Document) (ranks counts : List ℕ) (b p : ℕ) → IsDocument doc → is_element doc b ≡ true → p ≡ (row doc b).parent → HasChildren doc ranks counts b → get_or counts p 0 ≤ b
room doc ranks counts b p d e s t = let up : (row doc b).parent < b = small doc d b (some_element doc b d e) in small_count doc ranks counts b p t (omega (arith, up, s))

pub moved : (doc : Document) (ranks counts newer later : List ℕ) (b : ℕ) → newer ≡ ranks → later ≡ counts → HasChildren doc ranks counts b → HasChildren doc newer later b
moved doc ranks counts newer later b e f t = subst (λ v. HasChildren doc v later b) (sym e) (subst (λ v. HasChildren doc ranks v b) (sym f) t)

-- what holds where two facts of a result hold
pub both_ok : {A E P Q R : Type 0} (r : Result A E) → (P → Q → R) → OnOk r P → OnOk r Q → OnOk r R
both_ok (Ok a) f p q = f p q
both_ok (Err e) f p q = tt

pub not_element : (k : Kind) → (k ≡ Element → ⊥) → is_element_kind k ≡ false
not_element Element h = absurd (h refl)
not_element Root h = refl
not_element Attribute h = refl
not_element Text h = refl
not_element Comment h = refl

-- ---- what stands after an element

pub children_grow : (doc : Document) (e : ℕ → Bool) (p b n : ℕ) → b ≤ n → children_before doc e p b ≤ children_before doc e p n
children_grow doc e p b n l =
    let q : ℕ → Bool = λ z. e z && is_parent doc p z in
    omega (arith, ap (λ (v : List ℕ). length v) (upto q b n l), length-append (filter q (range_with_len 0 b)) (filter q (range_with_len b (n - b))))

pub one_and_more : (doc : Document) (e : ℕ → Bool) (x n : ℕ) → 0 < x → x < n → e x ≡ true → children_before doc e (row doc x).parent x + 1 ≤ children_before doc e (row doc x).parent n
one_and_more doc e x n some l h = omega (arith, one_child doc e (row doc x).parent x some h refl, children_grow doc e (row doc x).parent (x + 1) n (omega (arith, l)))

-- the counts of an element's parent and its rank
pub all_children : (doc : Document) (ranks counts : List ℕ) (x p all before : ℕ) → IsDocument doc → x < length doc → is_element doc x ≡ true → p ≡ (row doc x).parent → all ≡ get_or counts p 0 → before ≡ get_or ranks x 0
    → HasChildren doc ranks counts (length doc)
    → (all ≡ children_before doc (is_element doc) (row doc x).parent (length doc)) × (before ≡ children_before doc (is_element doc) (row doc x).parent x) × (before + 1 ≤ all)
all_children doc ranks counts x p all before d l e s f g t =
    let some : 0 < x = some_element doc x d e in
    let up : (row doc x).parent < x = small doc d x some in
    let a : all ≡ children_before doc (is_element doc) (row doc x).parent (length doc) = f ∙ t.count p (omega (arith, up, s, l)) ∙ ap (λ q. children_before doc (is_element doc) q (length doc)) s in
    let b : before ≡ children_before doc (is_element doc) (row doc x).parent x = g ∙ t.rank x l e in
    (a, b, omega (arith, a, b, one_and_more doc (is_element doc) x (length doc) some l e))
