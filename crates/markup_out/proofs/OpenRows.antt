-- What is still to be written while the markup of a row is written.
use Rattle.std.proofs.Common.{◌≡◌, ℕ, ◌+◌, ◌-◌, ◌<◌, ◌≤◌, Bool, List, [], ◌∷◌, ◌++◌, length, true, false, cond, refl, sym, ◌∙◌, ap, subst, arith, inl, inr, ◌⊎◌, append_assoc}
use Rattle.std.specs.Prelude.{filter, flat_map}
use Rattle.std.specs.List.{range_with_len}
use Rattle.std.proofs.lemmas.Bool.{and_parts, cases_lt, cases_eq, ltb-true, both_ways, false_from_ne_true}
use Rattle.std.proofs.lemmas.List.{append-nil}
use Rattle.std.proofs.lemmas.List.Concat.{flat_map-append}
use Rattle.doc_model.specs.declared.Axis.TheVariants as axis
use Rattle.doc_model.specs.Axes.{on_axis}
use Rattle.doc_model.specs.Document.{Document, row, below, is_attribute, IsDocument}
use Rattle.doc_model.specs.Ends.{IsEnd}
use Rattle.doc_model.proofs.AxisWalks.{parent_from}
use Rattle.doc_model.proofs.Below.{Small, small, below_cases, below_less, below_parent, below_up, below_trans, below_line, before_end}
use Rattle.doc_model.proofs.Filters.{from_to, none_in, single}
use Rattle.markup_out.specs.declared.output.Output.{Output}
use Rattle.markup_out.specs.inner.Adding.{Adds}
use Rattle.markup_out.specs.inner.Content.{before, after, content_from, IsNextChild, Begins}
use Rattle.markup_out.specs.Markup.{styled}
use Rattle.markup_out.proofs.AddingLemmas.{both, same, adds_over}
use Rattle.markup_out.proofs.ContentRows.{child_parent, child_no_attribute, nested_cases, on_child, no_content}
use Rattle.markup_out.proofs.AttributeRows.{before_cases}
use Rattle.markup_out.proofs.Levels.{child_behind}

-- What is written after the content of x up to the end of the markup of i, where x is i or below it: what stands
-- after x, then the children of its parent after it, and so on upwards.
pub data IsRest (back : Bool) (doc : Document) (i : ℕ) : ℕ → List ℕ → Type 0 where
  last : IsRest back doc i i (after doc i)
  further : (x : ℕ) (rest : List ℕ) → (x ≡ i → ⊥) → on_axis doc axis.Child (row doc x).parent x ≡ true → x < length doc → IsRest back doc i (row doc x).parent rest
      → IsRest back doc i x (after doc x ++ (content_from back doc (row doc x).parent (x + 1) ++ rest))

-- the content of x is written up to y
pub record Going (back : Bool) (doc : Document) (i x y : ℕ) (start now : Output) : Type 0 where
  pub written : List ℕ
  pub rest : List ℕ
  pub adds : Adds start now written
  pub is_rest : IsRest back doc i x rest
  pub whole : written ++ (content_from back doc x y ++ rest) ≡ styled back doc i
  pub next : IsNextChild doc x y
  pub behind : x < y
  pub within : y ≤ length doc

pub starts : (back : Bool) (doc : Document) (i y : ℕ) (start now : Output) → Adds start now (before back doc i) → Begins back doc i y → Going back doc i i y start now
starts back doc i y start now a b = record {
  written = before back doc i;
  rest = after doc i;
  adds = a;
  is_rest = last;
  whole = sym b.whole;
  next = b.next;
  behind = b.behind;
  within = b.within;
}

rest_from : (back : Bool) (doc : Document) (i x : ℕ) (rest : List ℕ) → Small doc → IsRest back doc i x rest → i ≤ x
rest_from back doc i _ _ m last = omega arith
rest_from back doc i _ _ m (further x rest other child inside r) =
    let up : (row doc x).parent < x = child_behind doc (row doc x).parent x m child in
    let from : i ≤ (row doc x).parent = rest_from back doc i (row doc x).parent rest m r in
    omega arith

-- ---- a child is opened

pub next_child : (doc : Document) (x y e : ℕ) → IsEnd doc x e → y < e → IsNextChild doc x y → (on_axis doc axis.Child x y ≡ true) × (y < length doc)
next_child doc x y e end l (inl k) = k
next_child doc x y e end l (inr f) =
    let known : y < length doc = (let w = end.within in omega arith) in
    absurd (both_ways _ (f.outside known) (end.inside y f.after l))

-- the child y, and then those after it
child_first : (back : Bool) (doc : Document) (x y : ℕ) → on_axis doc axis.Child x y ≡ true → y < length doc → content_from back doc x y ≡ styled back doc y ++ content_from back doc x (y + 1)
child_first back doc x y k l =
    let p = on_axis doc axis.Child x in
    ap (flat_map (styled back doc)) (from_to p y (y + 1) (length doc) (omega arith) (omega arith))
    ∙ flat_map-append (styled back doc) (filter p (range_with_len y (y + 1 - y))) (filter p (range_with_len (y + 1) (length doc - (y + 1))))
    ∙ ap (λ t. flat_map (styled back doc) t ++ content_from back doc x (y + 1)) (single p y (y + 1) (omega arith) (λ z m n. absurd (omega (arith, m, n))) ∙ ap (λ b. cond b (y ∷ []) []) k)
    ∙ ap (λ t. t ++ content_from back doc x (y + 1)) (append-nil (styled back doc y))

opened_whole : (w b c a f r m z : List ℕ) → m ≡ b ++ (c ++ a) → w ++ ((m ++ f) ++ r) ≡ z → (w ++ b) ++ (c ++ (a ++ (f ++ r))) ≡ z
opened_whole w b c a f r m z e h =
    append_assoc w b (c ++ (a ++ (f ++ r))) ∙ ap (λ t. w ++ t) (ap (λ t. b ++ t) (sym (append_assoc c a (f ++ r))) ∙ sym (append_assoc b (c ++ a) (f ++ r)) ∙ ap (λ t. t ++ (f ++ r)) (sym e) ∙ sym (append_assoc m f r))
    ∙ h

pub opens : (back : Bool) (doc : Document) (i x y n : ℕ) (start now then : Output) → IsDocument doc → on_axis doc axis.Child x y ≡ true → y < length doc → Going back doc i x y start now → Adds now then (before back doc y) → Begins back doc y n
    → Going back doc i y n start then
opens back doc i x y n start now then d child inside g a b =
    let from : i ≤ x = rest_from back doc i x g.rest (small doc d) g.is_rest in
    let behind : x < y = g.behind in
    let parent_is : (row doc y).parent ≡ x = child_parent doc x y child in
    record {
      written = g.written ++ before back doc y;
      rest = after doc y ++ (content_from back doc (row doc y).parent (y + 1) ++ g.rest);
      adds = both start now then g.written (before back doc y) g.adds a;
      is_rest = further y g.rest (λ e. omega arith) (subst (λ v. on_axis doc axis.Child v y ≡ true) (sym parent_is) child) inside (subst (λ v. IsRest back doc i v g.rest) (sym parent_is) g.is_rest);
      whole =
          opened_whole g.written (before back doc y) (content_from back doc y n) (after doc y) (content_from back doc (row doc y).parent (y + 1)) g.rest (styled back doc y) (styled back doc i) b.whole
          (ap (λ v. g.written ++ ((styled back doc y ++ content_from back doc v (y + 1)) ++ g.rest)) parent_is ∙ ap (λ t. g.written ++ (t ++ g.rest)) (sym (child_first back doc x y child inside)) ∙ g.whole);
      next = b.next;
      behind = b.behind;
      within = b.within;
    }

-- ---- the content ends

pub at_end : (doc : Document) (x y e : ℕ) → IsDocument doc → IsEnd doc x e → e ≤ y → IsNextChild doc x y → IsEnd doc x y
at_end doc x y e d end l (inl k) =
    let some = ltb-true 0 y (and_parts _ _ (and_parts _ _ k.0).1).0 in
    let early : y < e = before_end doc x e y d end k.1 (below_parent doc x y (small doc d) some (child_parent doc x y k.0)) in
    absurd (omega arith)
at_end doc x y e d end l (inr f) = f

rest_last : (back : Bool) (doc : Document) (i x : ℕ) (rest : List ℕ) → x ≡ i → IsRest back doc i x rest → rest ≡ after doc i
rest_last back doc i _ _ e last = refl
rest_last back doc i _ _ e (further x rest other child inside r) = absurd (other e)

pub closes_all : (back : Bool) (doc : Document) (i x y : ℕ) (start now then : Output) → IsDocument doc → x ≡ i → IsEnd doc x y → Going back doc i x y start now → Adds now then (after doc x) → Adds start then (styled back doc i)
closes_all back doc i x y start now then d e end g a =
    same start then (g.written ++ after doc x) (styled back doc i)
    (ap (λ t. g.written ++ t) (ap (after doc) e ∙ sym (rest_last back doc i x g.rest e g.is_rest)) ∙ ap (λ t. g.written ++ (t ++ g.rest)) (sym (no_content back doc x y d end)) ∙ g.whole)
    (both start now then g.written (after doc x) g.adds a)

-- the rows below a child are no children of its parent
past_below : (back : Bool) (doc : Document) (p x y : ℕ) → IsDocument doc → on_axis doc axis.Child p x ≡ true → x < y → y ≤ length doc → ((z : ℕ) → x < z → z < y → below doc x z ≡ true) → content_from back doc p (x + 1) ≡ content_from back doc p y
past_below back doc p x y d child l within inside =
    let m = small doc d in
    let test = on_axis doc axis.Child p in
    let up : p < x = child_behind doc p x m child in
    ap (flat_map (styled back doc))
    (from_to test (x + 1) y (length doc) (omega arith) within
    ∙ ap (λ v. v ++ filter test (range_with_len y (length doc - y)))
    (none_in test (y - (x + 1)) (x + 1) (λ z h k. false_from_ne_true _ (λ c.
    let deep : x ≤ (row doc z).parent = parent_from doc x z m (inside z (omega (arith, h)) (omega (arith, k))) in
    let is : (row doc z).parent ≡ p = child_parent doc p z c in
    omega arith))))

-- ---- the row after a child and what is below it

module _ (doc : Document) (p x y : ℕ) (d : IsDocument doc) (child : on_axis doc axis.Child p x ≡ true) (end : IsEnd doc x y) (within : y < length doc) (under : below doc p y ≡ true) where
  m : Small doc
  m = small doc d

  up : p < x
  up = child_behind doc p x m child

  outside : below doc x y ≡ true → ⊥
  outside h = both_ways _ (end.outside within) h

  -- the row before y is x or below it
  last_cases : (y - 1 ≡ x) ⊎ (below doc x (y - 1) ≡ true)
  last_cases = elim (cases_lt x (y - 1)) [ inl l ↦ inr (end.inside (y - 1) l (let k : x < y = end.after in omega arith)) | inr l ↦ inl (let k : x < y = end.after in omega arith) ]

  above_line : (q : ℕ) → below doc q y ≡ true → below doc x (y - 1) ≡ true → below doc q (y - 1) ≡ true → (q < x) ⊎ (x ≤ q) → below doc q x ≡ true
  above_line q h a b (inl l) = below_line doc q x (y - 1) m l b a
  above_line q h a b (inr l) = elim (cases_eq x q) [
    | inl e ↦ absurd (outside (subst (λ v. below doc v y ≡ true) (sym e) h))
    | inr n ↦ absurd (outside (below_trans doc x q y m (below_line doc x q (y - 1) m (omega arith) a b) h))
  ]

  -- a parent of y that is below p stands above x, which has p as its parent
  parent_above : (row doc y).parent ≡ p
  parent_above = from (below_cases doc p y m under)
    where
      some : 0 < y
      some = let k : x < y = end.after in omega arith

      own : below doc (row doc y).parent y ≡ true
      own = below_parent doc (row doc y).parent y m some refl

      not_between : below doc p (row doc y).parent ≡ true → below doc (row doc y).parent x ≡ true → ⊥
      not_between c b = let deep : p < (row doc y).parent = below_less doc p _ m c in elim (below_cases doc (row doc y).parent x m b) [
        | inl e ↦ (let is : (row doc x).parent ≡ p = child_parent doc p x child in omega arith)
        | inr f ↦ (let less : (row doc y).parent < (row doc x).parent = below_less doc _ _ m f in let is : (row doc x).parent ≡ p = child_parent doc p x child in omega arith)
      ]

      by_last : below doc p (row doc y).parent ≡ true → ((row doc y).parent ≡ y - 1) ⊎ (below doc (row doc y).parent (y - 1) ≡ true) → (y - 1 ≡ x) ⊎ (below doc x (y - 1) ≡ true) → ⊥
      by_last c (inl e) (inl l) = outside (below_parent doc x y m some (e ∙ l))
      by_last c (inl e) (inr l) = outside (below_up doc x y m some (subst (λ v. below doc x v ≡ true) (sym e) l))
      by_last c (inr b) (inl l) = not_between c (subst (λ v. below doc (row doc y).parent v ≡ true) l b)
      by_last c (inr b) (inr l) = not_between c (above_line (row doc y).parent own l b (cases_lt (row doc y).parent x))

      from : ((row doc y).parent ≡ p) ⊎ (below doc p (row doc y).parent ≡ true) → (row doc y).parent ≡ p
      from (inl e) = e
      from (inr c) = absurd (by_last c (nested_cases doc y d some within) last_cases)

  no_attribute : is_attribute doc y ≡ false
  no_attribute = false_from_ne_true _ (λ a. from a (before_cases doc y d some within a).1)
    where
      some : 0 < y
      some = let k : x < y = end.after in omega arith

      from : is_attribute doc y ≡ true → ((row doc y).parent ≡ y - 1) ⊎ ((is_attribute doc (y - 1) ≡ true) × ((row doc (y - 1)).parent ≡ (row doc y).parent)) → ⊥
      from a (inl e) = let k : x < y = end.after in let above : p < x = up in let is : (row doc y).parent ≡ p = parent_above in omega arith
      from a (inr b) = elim last_cases [
        | inl l ↦ both_ways _ (child_no_attribute doc p x child) (subst (λ v. is_attribute doc v ≡ true) l b.0)
        | inr l ↦ (let above : p < x = up in let deep : x ≤ (row doc (y - 1)).parent = parent_from doc x (y - 1) m l in let is : (row doc y).parent ≡ p = parent_above in let same_parent : (row doc (y - 1)).parent ≡ (row doc y).parent = b.1 in omega arith)
      ]

  pub sibling : on_axis doc axis.Child p y ≡ true
  sibling = on_child doc p y (let k : x < y = end.after in omega arith) no_attribute parent_above

-- after a child stands the next one, or the rows below the parent end there
next_sibling : (doc : Document) (p x y e : ℕ) → IsDocument doc → on_axis doc axis.Child p x ≡ true → x < length doc → IsEnd doc x y → IsEnd doc p e → (y < e) ⊎ (e ≤ y) → IsNextChild doc p y
next_sibling doc p x y e d child inside end outer (inl l) =
    let m = small doc d in
    let up : p < x = child_behind doc p x m child in
    let behind : x < y = end.after in
    let within : y < length doc = (let w = outer.within in omega arith) in
    inl (sibling doc p x y d child end within (outer.inside y (omega arith) l), within)
next_sibling doc p x y e d child inside end outer (inr l) =
    let m = small doc d in
    let some : 0 < x = ltb-true 0 x (and_parts _ _ (and_parts _ _ child).1).0 in
    let under : below doc p x ≡ true = below_parent doc p x m some (child_parent doc p x child) in
    let early : x < e = before_end doc p e x d outer inside under in
    elim (cases_lt e y) [
      | inl k ↦
          let deep = below_trans doc p x e m under (end.inside e early k) in
          let again : e < e = before_end doc p e e d outer (let w = end.within in omega arith) deep in
          absurd (omega arith)
      | inr k ↦ inr (let same_end : e ≡ y = omega arith in subst (λ v. IsEnd doc p v) same_end outer)
    ]

closed : (back : Bool) (doc : Document) (i x y e : ℕ) (rest written : List ℕ) (start now then : Output) → IsDocument doc → (x ≡ i → ⊥) → IsEnd doc x y → IsEnd doc (row doc x).parent e → Adds start now written
    → written ++ (content_from back doc x y ++ rest) ≡ styled back doc i → Adds now then (after doc x) → IsRest back doc i x rest → Going back doc i (row doc x).parent y start then
closed back doc i _ y e _ written start now then d other end outer a whole b last = absurd (other refl)
closed back doc i _ y e _ written start now then d other end outer a whole b (further x rest n child inside r) =
    let m = small doc d in
    let p = (row doc x).parent in
    let up : (row doc x).parent < x = child_behind doc p x m child in
    let behind : x < y = end.after in
    record {
      written = written ++ after doc x;
      rest = rest;
      adds = both start now then written (after doc x) a b;
      is_rest = r;
      whole =
          append_assoc written (after doc x) (content_from back doc p y ++ rest)
          ∙ ap (λ t. written ++ (after doc x ++ (t ++ rest))) (sym (past_below back doc p x y d child behind end.within end.inside))
          ∙ ap (λ t. written ++ (t ++ (after doc x ++ (content_from back doc p (x + 1) ++ rest)))) (sym (no_content back doc x y d end))
          ∙ whole;
      next = next_sibling doc p x y e d child inside end outer (cases_lt y e);
      behind = omega arith;
      within = end.within;
    }

pub closes : (back : Bool) (doc : Document) (i x y e : ℕ) (start now then : Output) → IsDocument doc → (x ≡ i → ⊥) → IsEnd doc x y → IsEnd doc (row doc x).parent e → Going back doc i x y start now → Adds now then (after doc x)
    → Going back doc i (row doc x).parent y start then
closes back doc i x y e start now then d other end outer g a = closed back doc i x y e g.rest g.written start now then d other end outer g.adds g.whole a g.is_rest

-- ---- what is written is too much already

pub goes_on_over : (back : Bool) (doc : Document) (i x y : ℕ) (start now : Output) → now.over ≡ true → Going back doc i x y start now → Adds start now (styled back doc i)
goes_on_over back doc i x y start now h g = same start now _ _ g.whole (adds_over start now g.written (content_from back doc x y ++ g.rest) h g.adds)

-- ---- the loop ends

-- a row whose content ends is no root node, where it is not i
rest_parent : (back : Bool) (doc : Document) (i x : ℕ) (rest : List ℕ) → Small doc → (x ≡ i → ⊥) → IsRest back doc i x rest → (row doc x).parent < x
rest_parent back doc i _ _ m other last = absurd (other refl)
rest_parent back doc i _ _ m other (further x rest n child inside r) = child_behind doc (row doc x).parent x m child

pub closed_parent : (back : Bool) (doc : Document) (i x y : ℕ) (start now : Output) → IsDocument doc → (x ≡ i → ⊥) → Going back doc i x y start now → (row doc x).parent < x
closed_parent back doc i x y start now d other g = rest_parent back doc i x g.rest (small doc d) other g.is_rest
