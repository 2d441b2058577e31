-- How many elements stand beside an element on the axes of siblings.
use Rattle.std.proofs.Common.{◌≡◌, ℕ, ◌+◌, ◌-◌, ◌<◌, length, Bool, true, false, ◌&&◌, eqb, nat_lt, List, ◌++◌, refl, sym, ◌∙◌, ap, arith, lt-ltb}
use Rattle.std.specs.Prelude.{filter, not}
use Rattle.std.specs.List.{range_with_len}
use Rattle.std.proofs.lemmas.Bool.{and_parts, and_left, and_right, both_ways, le-ltb}
use Rattle.std.specs.Str.{bytes_eq}
use Rattle.std.proofs.lemmas.Slice.Eq.{bytes_eq-Decides}
use Rattle.std.proofs.lemmas.List.{length-append, length-reverse, append-nil}
use Rattle.text_base.proofs.Swaps.{flip}
use Rattle.doc_model.specs.declared.Axis.TheVariants as axis
use Rattle.doc_model.specs.declared.Axis.{Axis}
use Rattle.doc_model.specs.declared.Kind.{Kind}
use Rattle.doc_model.specs.declared.Kind.TheVariants.{Root, Element, Attribute, Text, Comment}
use Rattle.doc_model.specs.declared.NodeTest.{NodeTest}
use Rattle.doc_model.specs.declared.NodeTest.TheVariants as test
use Rattle.doc_model.specs.Document.{Document, row, rows, is_element, is_element_kind, is_attribute, is_attribute_kind, is_parent, IsDocument}
use Rattle.doc_model.specs.Axes.{axis_list, are_siblings, passes}
use Rattle.doc_model.proofs.Filters.{none_in, upto, upto_none}
use Rattle.step_index.proofs.Counted.{one_child, some_element}
use Rattle.doc_model.proofs.Runs.{same_filter_below}
use Rattle.step_index.specs.Named.{is_named}
use Rattle.step_index.specs.Siblings.{children_before}

no_attribute : (k : Kind) → is_element_kind k ≡ true → is_attribute_kind k ≡ false
no_attribute Element h = refl
no_attribute Root h = refl
no_attribute Attribute h = cc
no_attribute Text h = refl
no_attribute Comment h = refl

shape : (z0 az pz ez : Bool) → (ez ≡ true → az ≡ false) → (((z0 && (not az && pz)) && true) && ez) ≡ (ez && (z0 && pz))
shape z0 az pz false h = and_right ((z0 && (not az && pz)) && true) false refl
shape z0 true pz true h = absurd (both_ways true (h refl) refl)
shape true false true true h = refl
shape true false false true h = refl
shape false false pz true h = refl

-- of the rows on the right side of an element, those that pass are its siblings where its parent is theirs
sibling : (doc : Document) (x z : ℕ) (e : ℕ → Bool) (b : Bool) → 0 < x → is_element doc x ≡ true → (e z ≡ true → is_element doc z ≡ true) → b ≡ true
    → ((are_siblings doc x z && b) && e z) ≡ (e z && is_parent doc (row doc x).parent z)
sibling doc x z e b some h only s =
    let az = is_attribute doc z in
    let pz = eqb (row doc x).parent (row doc z).parent in
    ap (λ v. ((v && (nat_lt 0 z && (not (is_attribute doc x) && (not az && pz)))) && b) && e z) (lt-ltb 0 x some)
    ∙ ap (λ v. ((nat_lt 0 z && (not v && (not az && pz))) && b) && e z) (no_attribute (row doc x).kind h)
    ∙ ap (λ v. ((nat_lt 0 z && (not az && pz)) && v) && e z) s
    ∙ shape (nat_lt 0 z) az pz (e z) (λ k. no_attribute (row doc z).kind (only k))
    ∙ ap (λ v. e z && (nat_lt 0 z && v)) (flip (row doc x).parent (row doc z).parent)

-- those before it
pub preceding : (doc : Document) (x : ℕ) (a : Axis) (t : NodeTest) → IsDocument doc → x < length doc → is_element doc x ≡ true → a ≡ axis.PrecedingSibling
    → ((z : ℕ) → passes doc axis.PrecedingSibling t z ≡ true → is_element doc z ≡ true)
    → length (axis_list doc x a t) ≡ children_before doc (passes doc axis.PrecedingSibling t) (row doc x).parent x
preceding doc x a t d l h s only =
    let e = passes doc axis.PrecedingSibling t in
    let c : ℕ → Bool = λ y. (are_siblings doc x y && nat_lt y x) && e y in
    let q : ℕ → Bool = λ z. e z && is_parent doc (row doc x).parent z in
    ap (λ v. length (axis_list doc x v t)) s
    ∙ length-reverse (filter c (rows doc))
    ∙ ap (λ (v : List ℕ). length v) (
    upto c x (length doc) (omega arith)
    ∙ ap (λ v. filter c (range_with_len 0 x) ++ v) (none_in c (length doc - x) x (λ z m k. and_left _ _ (and_right _ _ (le-ltb z x m))))
    ∙ append-nil _
    ∙ same_filter_below c q x 0 (λ z m k. sibling doc x z e (nat_lt z x) (some_element doc x d h) h (only z) (lt-ltb z x (omega (arith, k)))))

-- those after it
pub following : (doc : Document) (x : ℕ) (a : Axis) (t : NodeTest) → IsDocument doc → x < length doc → is_element doc x ≡ true → a ≡ axis.FollowingSibling
    → ((z : ℕ) → passes doc axis.FollowingSibling t z ≡ true → is_element doc z ≡ true) → passes doc axis.FollowingSibling t x ≡ true
    → children_before doc (passes doc axis.FollowingSibling t) (row doc x).parent (length doc)
    ≡ children_before doc (passes doc axis.FollowingSibling t) (row doc x).parent x + 1 + length (axis_list doc x a t)
following doc x a t d l h s only own =
    let e = passes doc axis.FollowingSibling t in
    let c : ℕ → Bool = λ y. (are_siblings doc x y && nat_lt x y) && e y in
    let q : ℕ → Bool = λ z. e z && is_parent doc (row doc x).parent z in
    let n = length doc in
    let some = some_element doc x d h in
    let found : filter c (rows doc) ≡ filter q (range_with_len (x + 1) (n - (x + 1))) =
    upto c (x + 1) n (omega arith)
    ∙ ap (λ v. v ++ filter c (range_with_len (x + 1) (n - (x + 1)))) (upto_none c (x + 1) (λ z k. and_left _ _ (and_right _ _ (le-ltb x z (omega (arith, k))))))
    ∙ same_filter_below c q (n - (x + 1)) (x + 1) (λ z m k. sibling doc x z e (nat_lt x z) some h (only z) (lt-ltb x z (omega (arith, m)))) in
    let split : children_before doc e (row doc x).parent n ≡ children_before doc e (row doc x).parent (x + 1) + length (filter q (range_with_len (x + 1) (n - (x + 1)))) =
    ap (λ (v : List ℕ). length v) (upto q (x + 1) n (omega arith)) ∙ length-append (filter q (range_with_len 0 (x + 1))) (filter q (range_with_len (x + 1) (n - (x + 1)))) in
    let one : children_before doc e (row doc x).parent (x + 1) ≡ children_before doc e (row doc x).parent x + 1 = one_child doc e (row doc x).parent x some own refl in
    let here : length (axis_list doc x a t) ≡ length (filter q (range_with_len (x + 1) (n - (x + 1)))) = ap (λ v. length (axis_list doc x v t)) s ∙ ap (λ (v : List ℕ). length v) found in
    split ∙ ap (λ m. m + length (filter q (range_with_len (x + 1) (n - (x + 1))))) one ∙ ap (λ m. children_before doc e (row doc x).parent x + 1 + m) (sym here)

-- ---- with any name

pub any_preceding : (doc : Document) (x : ℕ) (a : Axis) (t : NodeTest) → IsDocument doc → x < length doc → is_element doc x ≡ true → a ≡ axis.PrecedingSibling → t ≡ test.AnyName
    → length (axis_list doc x a t) ≡ children_before doc (is_element doc) (row doc x).parent x
any_preceding doc x a t d l h s e = ap (λ v. length (axis_list doc x a v)) e ∙ preceding doc x a test.AnyName d l h s (λ z k. k)

pub any_following : (doc : Document) (x : ℕ) (a : Axis) (t : NodeTest) (r : ℕ) → IsDocument doc → x < length doc → is_element doc x ≡ true → a ≡ axis.FollowingSibling → t ≡ test.AnyName
    → children_before doc (is_element doc) (row doc x).parent (length doc) ≡ children_before doc (is_element doc) (row doc x).parent x + 1 + r
    → r ≡ length (axis_list doc x a t)
any_following doc x a t r d l h s e f =
    let here : length (axis_list doc x a t) ≡ length (axis_list doc x a test.AnyName) = ap (λ v. length (axis_list doc x a v)) e in
    omega (arith, f, here, following doc x a test.AnyName d l h s (λ z k. k) h)

-- ---- with the element's own name

own_name : (doc : Document) (x : ℕ) (n : List ℕ) → is_named doc n x ≡ true → (is_element doc x ≡ true) × ((row doc x).name ≡ n)
own_name doc x n h = let two = and_parts (is_element doc x) (bytes_eq (row doc x).name n) h in (two.0, (bytes_eq-Decides (row doc x).name n).0 two.1)

pub named_preceding : (doc : Document) (x : ℕ) (a : Axis) (t : NodeTest) (n : List ℕ) → IsDocument doc → x < length doc → is_named doc n x ≡ true → a ≡ axis.PrecedingSibling → t ≡ test.Name n
    → length (axis_list doc x a t) ≡ children_before doc (is_named doc (row doc x).name) (row doc x).parent x
named_preceding doc x a t n d l h s e =
    let own = own_name doc x n h in
    ap (λ v. length (axis_list doc x a v)) e ∙ preceding doc x a (test.Name n) d l own.0 s (λ z k. (and_parts (is_element doc z) (bytes_eq (row doc z).name n) k).0)
    ∙ ap (λ v. children_before doc (is_named doc v) (row doc x).parent x) (sym own.1)

pub named_following : (doc : Document) (x : ℕ) (a : Axis) (t : NodeTest) (n : List ℕ) (r : ℕ) → IsDocument doc → x < length doc → is_named doc n x ≡ true → a ≡ axis.FollowingSibling → t ≡ test.Name n
    → children_before doc (is_named doc (row doc x).name) (row doc x).parent (length doc) ≡ children_before doc (is_named doc (row doc x).name) (row doc x).parent x + 1 + r
    → r ≡ length (axis_list doc x a t)
named_following doc x a t n r d l h s e f =
    let own = own_name doc x n h in
    let here : length (axis_list doc x a t) ≡ length (axis_list doc x a (test.Name n)) = ap (λ v. length (axis_list doc x a v)) e in
    let all : children_before doc (is_named doc (row doc x).name) (row doc x).parent (length doc) ≡ children_before doc (is_named doc n) (row doc x).parent (length doc) = ap (λ v. children_before doc (is_named doc v) (row doc x).parent (length doc)) own.1 in
    let before : children_before doc (is_named doc (row doc x).name) (row doc x).parent x ≡ children_before doc (is_named doc n) (row doc x).parent x = ap (λ v. children_before doc (is_named doc v) (row doc x).parent x) own.1 in
    let walked : children_before doc (is_named doc n) (row doc x).parent (length doc) ≡ children_before doc (is_named doc n) (row doc x).parent x + 1 + length (axis_list doc x a (test.Name n)) =
    following doc x a (test.Name n) d l own.0 s (λ z k. (and_parts (is_element doc z) (bytes_eq (row doc z).name n) k).0) h in
    omega (arith, f, here, all, before, walked)
