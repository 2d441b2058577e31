-- How many elements of a name are on an axis, by how many of them stand before a row.
use Rattle.std.proofs.Common.{◌≡◌, ℕ, zero, suc, ◌+◌, ◌-◌, ◌<◌, ◌≤◌, length, Bool, true, false, ◌&&◌, ◌||◌, cond, List, ◌∷◌, ◌++◌, refl, sym, ◌∙◌, ap, arith, lt-ltb}
use Rattle.std.specs.Prelude.{filter, not}
use Rattle.std.specs.List.{range_with_len}
use Rattle.std.proofs.lemmas.Bool.{and_left, and_right, le-ltb}
use Rattle.std.proofs.lemmas.List.{length-append, length-reverse, append-nil}
use Rattle.doc_model.specs.declared.Axis.{Axis}
use Rattle.doc_model.specs.declared.Axis.TheVariants as axis
use Rattle.doc_model.specs.declared.Kind.{Kind}
use Rattle.doc_model.specs.declared.Kind.TheVariants.{Root, Element, Attribute, Text, Comment}
use Rattle.doc_model.specs.declared.NodeTest.{NodeTest}
use Rattle.doc_model.specs.declared.NodeTest.TheVariants as test
use Rattle.doc_model.specs.Document.{Document, row, rows, is_element, is_element_kind, is_attribute, is_attribute_kind, is_parent, below, IsDocument}
use Rattle.doc_model.specs.Axes.{axis_list, passes}
use Rattle.doc_model.specs.Ends.{IsEnd}
use Rattle.doc_model.specs.inner.Walks.{chosen, is_kept, IsWalk}
use Rattle.doc_model.proofs.AxisWalks.{descendant_walk, following_walk}
use Rattle.doc_model.proofs.Below.{small, not_up}
use Rattle.doc_model.proofs.Filters.{none_in, from_to, upto, upto_none, upto_all}
use Rattle.doc_model.proofs.Runs.{same_filter, same_filter_below}
use Rattle.step_index.specs.Named.{is_named, named_before}
use Rattle.step_index.specs.Siblings.{children_before}

-- what is kept of a walk and passes, where what passes is no attribute
kept_named : (k : Kind) (b : Bool) → (not (is_attribute_kind k) && (is_element_kind k && b)) ≡ (is_element_kind k && b)
kept_named Element b = refl
kept_named Root b = refl
kept_named Attribute b = refl
kept_named Text b = refl
kept_named Comment b = refl

-- ---- the axes that are a range of all rows

-- those before the range's end are those before the range and those on the axis
over_walk : (doc : Document) (a : Axis) (x : ℕ) (t : NodeTest) (from to : ℕ) (p : ℕ → Bool) → IsWalk doc a x from to false → from ≤ to → ((y : ℕ) → (is_kept doc a x y && passes doc a t y) ≡ p y)
    → filter p (range_with_len 0 to) ≡ filter p (range_with_len 0 from) ++ filter (chosen doc a x t) (rows doc)
over_walk doc a x t from to p w le same =
    let c = chosen doc a x t in
    let n = length doc in
    let all : filter c (range_with_len 0 n) ≡ filter p (range_with_len from (to - from)) =
    upto c from n w.starts
    ∙ ap (λ v. v ++ filter c (range_with_len from (n - from))) (upto_none c from (λ z l. and_left _ _ (w.before z l)))
    ∙ from_to c from to n le w.ends
    ∙ ap (λ v. filter c (range_with_len from (to - from)) ++ v) (none_in c (n - to) to (λ z l k. and_left _ _ (w.after z l (omega (arith, k, w.ends)))))
    ∙ append-nil _
    ∙ same_filter_below c p (to - from) from (λ y l k. ap (λ b. b && passes doc a t y) (w.within y l (omega (arith, k, le))) ∙ same y) in
    upto p from to le ∙ ap (λ v. filter p (range_with_len 0 from) ++ v) (sym all)

pub number_below : (doc : Document) (x e : ℕ) (name : List ℕ) → IsDocument doc → IsEnd doc x e
    → length (named_before doc name e) ≡ length (named_before doc name (x + 1)) + length (axis_list doc x axis.Descendant (test.Name name))
number_below doc x e name d end =
    ap (λ (v : List ℕ). length v) (over_walk doc axis.Descendant x (test.Name name) (x + 1) e (is_named doc name) (descendant_walk doc x e d end) (omega (arith, end.after)) (λ y. kept_named (row doc y).kind _))
    ∙ length-append (named_before doc name (x + 1)) (axis_list doc x axis.Descendant (test.Name name))

pub number_following : (doc : Document) (x e : ℕ) (name : List ℕ) → IsDocument doc → IsEnd doc x e
    → length (named_before doc name (length doc)) ≡ length (named_before doc name e) + length (axis_list doc x axis.Following (test.Name name))
number_following doc x e name d end =
    ap (λ (v : List ℕ). length v) (over_walk doc axis.Following x (test.Name name) e (length doc) (is_named doc name) (following_walk doc x e d end) end.within (λ y. kept_named (row doc y).kind _))
    ∙ length-append (named_before doc name e) (axis_list doc x axis.Following (test.Name name))

-- ---- what precedes a row, and what is above it

one_of_two : (b c : Bool) (y : ℕ) (both first second : List ℕ) → (b && c) ≡ false → length both ≡ length first + length second
    → length (cond (b || c) (y ∷ both) both) ≡ length (cond b (y ∷ first) first) + length (cond c (y ∷ second) second)
one_of_two true true y both first second n e = cc
one_of_two true false y both first second n e = omega (arith, e)
one_of_two false true y both first second n e = omega (arith, e)
one_of_two false false y both first second n e = omega (arith, e)

two_sorts : (p q r : ℕ → Bool) (n low : ℕ) → ((y : ℕ) → low ≤ y → y < low + n → ((q y || r y) ≡ p y) × ((q y && r y) ≡ false))
    → length (filter p (range_with_len low n)) ≡ length (filter q (range_with_len low n)) + length (filter r (range_with_len low n))
two_sorts p q r zero low h = refl
two_sorts p q r (suc n) low h =
    let here = h low (omega arith) (omega arith) in
    let rest = two_sorts p q r n (low + 1) (λ y l k. h y (omega (arith, l)) (omega (arith, k))) in
    ap (λ b. length (cond b (low ∷ filter p (range_with_len (low + 1) n)) (filter p (range_with_len (low + 1) n)))) (sym here.0)
    ∙ one_of_two (q low) (r low) low _ _ _ here.1 rest

either : (k : Kind) (b c : Bool) → ((((true && (not b && not (is_attribute_kind k))) && (is_element_kind k && c)) || (b && (is_element_kind k && c))) ≡ (is_element_kind k && c))
either Element true true = refl
either Element true false = refl
either Element false true = refl
either Element false false = refl
either Root true c = refl
either Root false c = refl
either Attribute true c = refl
either Attribute false c = refl
either Text true c = refl
either Text false c = refl
either Comment true c = refl
either Comment false c = refl

never_both : (a b c : Bool) → (((true && (not b && a)) && c) && (b && c)) ≡ false
never_both a true c = refl
never_both true false true = refl
never_both true false false = refl
never_both false false c = refl

pub number_preceding : (doc : Document) (x : ℕ) (name : List ℕ) → IsDocument doc → x < length doc
    → length (named_before doc name x) ≡ length (axis_list doc x axis.Preceding (test.Name name)) + length (axis_list doc x axis.Ancestor (test.Name name))
number_preceding doc x name d l =
    let q = chosen doc axis.Preceding x (test.Name name) in
    let r = chosen doc axis.Ancestor x (test.Name name) in
    let n = length doc in
    let firsts : filter q (range_with_len 0 x) ≡ filter q (rows doc) = upto_all q x n (omega (arith, l)) (λ z a b. and_left _ _ (and_left _ _ (le-ltb z x a))) in
    let above : filter r (range_with_len 0 x) ≡ filter r (rows doc) = upto_all r x n (omega (arith, l)) (λ z a b. and_left _ _ (not_up doc z x (small doc d) a)) in
    two_sorts (is_named doc name) q r x 0 (λ y a b. (
      ap (λ v. ((v && (not (below doc y x) && not (is_attribute doc y))) && is_named doc name y) || (below doc y x && is_named doc name y)) (lt-ltb y x (omega (arith, b))) ∙ either (row doc y).kind (below doc y x) _,
      ap (λ v. ((v && (not (below doc y x) && not (is_attribute doc y))) && is_named doc name y) && (below doc y x && is_named doc name y)) (lt-ltb y x (omega (arith, b))) ∙ never_both (not (is_attribute doc y)) (below doc y x) (is_named doc name y),
    ))
    ∙ ap (λ (v : List ℕ). length v + length (filter r (range_with_len 0 x))) (firsts)
    ∙ ap (λ (v : List ℕ). length (filter q (rows doc)) + length v) above
    ∙ sym (ap (λ m. m + length (axis_list doc x axis.Ancestor (test.Name name))) (length-reverse (filter q (rows doc))) ∙ ap (λ m. length (filter q (rows doc)) + m) (length-reverse (filter r (rows doc))))

-- ---- children

children_kinds : (k : Kind) (b : Bool) → ((not (is_attribute_kind k) && b) && is_element_kind k) ≡ (is_element_kind k && b)
children_kinds Element true = refl
children_kinds Element false = refl
children_kinds Root b = and_right b false refl
children_kinds Attribute b = refl
children_kinds Text b = and_right b false refl
children_kinds Comment b = and_right b false refl

pub any_children : (doc : Document) (x : ℕ) (a : Axis) (t : NodeTest) → a ≡ axis.Child → t ≡ test.AnyName → length (axis_list doc x a t) ≡ children_before doc (is_element doc) x (length doc)
any_children doc x a t e f =
    ap (λ v. length (axis_list doc x v t)) e ∙ ap (λ v. length (axis_list doc x axis.Child v)) f
    ∙ ap (λ (v : List ℕ). length v) (same_filter (chosen doc axis.Child x test.AnyName) (λ z. is_element doc z && is_parent doc x z) (length doc) 0 (λ y l. children_kinds (row doc y).kind (is_parent doc x y)))
