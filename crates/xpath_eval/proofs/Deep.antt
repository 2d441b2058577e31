-- The step that `//` stands for and a child step after it are one step down.
use Rattle.std.proofs.Common.{◌≡◌, refl, sym, ◌∙◌, ap, subst, ℕ, ◌<◌, true, false, eqb, ltb, List, length, map, arith, inl, inr}
use Rattle.std.specs.Cmp as std_cmp
use Rattle.std.specs.List.{list_any}
use Rattle.std.specs.Prelude.{not}
use Rattle.std.proofs.lemmas.Bool.{and_parts, eqb-true, eq-eqb, ltb-true, or_cases, lt-ltb}
use Rattle.doc_model.specs.declared.Axis.TheVariants as axis
use Rattle.doc_model.specs.declared.NodeTest.{NodeTest}
use Rattle.doc_model.specs.declared.NodeTest.TheVariants as test
use Rattle.doc_model.specs.Document.{Document, row, rows, is_attribute, is_attribute_kind, below, IsDocument}
use Rattle.doc_model.specs.Axes.{passes, axis_list}
use Rattle.doc_model.specs.RowLists.{has}
use Rattle.doc_model.proofs.Runs.{same_filter_below}
use Rattle.doc_model.proofs.Below.{small, below_cases, below_parent, below_up, below_some}
use Rattle.xpath_parser.specs.declared.expression.Step.{Step, out-Step}
use Rattle.xpath_parser.specs.Denote.{denote, walk_of, rows_in, kept}
use Rattle.xpath_eval.specs.inner.Steps.{IsAllBelow, IsTestedChild}
use Rattle.xpath_eval.proofs.Covering.{or_first, or_second, both_true, not_true, any_member, member_any, told_from, has_axis, plain_walk}
use Rattle.xpath_eval.proofs.Filtering.{tested_after, filter_same, any_by}
use Rattle.xpath_eval.proofs.Gathers.{rows_in_run}
use Rattle.xpath_eval.proofs.Lists.{member_of_all, run_below}

module _ (doc : Document) where
  abbrev pub itself_or_below : ℕ → List ℕ
  itself_or_below x = axis_list doc x axis.DescendantOrSelf test.Node

  same_passes : (t : NodeTest) (y : ℕ) → passes doc axis.Child t y ≡ passes doc axis.Descendant t y
  same_passes test.AnyName y = refl
  same_passes (test.Name n) y = refl
  same_passes test.Node y = refl
  same_passes test.Text y = refl
  same_passes test.Comment y = refl
  same_passes test.Instruction y = refl

  -- a child of x or of a row below x is below x
  child_below : (t : NodeTest) (x z y : ℕ) → IsDocument doc → z < length doc → y < length doc
      → has z (itself_or_below x) ≡ true → has y (axis_list doc z axis.Child t) ≡ true → has y (axis_list doc x axis.Descendant t) ≡ true
  child_below t x z y d lz ly hz hy =
      let m = small doc d in
      let from = and_parts _ _ (sym (has_axis doc x axis.DescendantOrSelf test.Node z lz) ∙ hz) in
      let child = and_parts _ _ (sym (has_axis doc z axis.Child t y ly) ∙ hy) in
      let on = and_parts (not (is_attribute doc y)) _ child.0 in
      let parent = and_parts (ltb 0 y) _ on.1 in
      let some : 0 < y = ltb-true 0 y parent.0 in
      let of : (row doc y).parent ≡ z = eqb-true _ z parent.1 in
      let deep : below doc x y ≡ true = elim (or_cases (eqb z x) _ from.0) [
        | inl same ↦ below_parent doc x y m some (of ∙ eqb-true z x same)
        | inr under ↦ below_up doc x y m some (subst (λ v. below doc x v ≡ true) (sym of) (and_parts (not (is_attribute doc z)) _ under).1)
      ] in
      has_axis doc x axis.Descendant t y ly ∙ both_true _ _ (both_true _ _ on.0 deep) (sym (same_passes t y) ∙ child.1)

  -- what has rows below it is no attribute
  owner_plain : (y : ℕ) → IsDocument doc → 0 < y → y < length doc → is_attribute doc (row doc y).parent ≡ false
  owner_plain y d some l = elim (d.rest y some l).owner [
    | inl e ↦ ap is_attribute_kind e
    | inr e ↦ ap is_attribute_kind e
  ]

  record Between (t : NodeTest) (x y : ℕ) : Type 0 where
    row : ℕ
    within : row < length doc
    from : has row (itself_or_below x) ≡ true
    child : has y (axis_list doc row axis.Child t) ≡ true

  -- the parent of a row below x is x or below it
  parent_between : (t : NodeTest) (x y : ℕ) → IsDocument doc → y < length doc → has y (axis_list doc x axis.Descendant t) ≡ true → Between t x y
  parent_between t x y d ly h =
      let m = small doc d in
      let parts = and_parts _ _ (sym (has_axis doc x axis.Descendant t y ly) ∙ h) in
      let on = and_parts (not (is_attribute doc y)) _ parts.0 in
      let some : 0 < y = below_some doc x y on.1 in
      let z = (row doc y).parent in
      let lz : z < length doc = omega (arith, m y some, ly) in
      let from : has z (itself_or_below x) ≡ true =
      has_axis doc x axis.DescendantOrSelf test.Node z lz ∙ both_true _ _ (elim (below_cases doc x y m on.1) [
        | inl same ↦ or_first _ _ (eq-eqb z x same)
        | inr under ↦ or_second (eqb z x) _ (both_true _ _ (not_true _ (owner_plain y d some ly)) under)
      ]) refl in
      record {
        row = z;
        within = lz;
        from = from;
        child = has_axis doc z axis.Child t y ly ∙ both_true _ _ (both_true _ _ on.0 (both_true _ _ (lt-ltb 0 y some) (eq-eqb z z refl))) (same_passes t y ∙ parts.1);
      }

  joined : (t : NodeTest) (xs : List ℕ) → IsDocument doc
      → rows_in doc (rows_in doc xs itself_or_below) (λ z. axis_list doc z axis.Child t) ≡ rows_in doc xs (λ x. axis_list doc x axis.Descendant t)
  unfolding rows_in
  joined t xs d =
      let firsts = rows_in doc xs itself_or_below in
      same_filter_below (λ y. list_any (λ z. has y (axis_list doc z axis.Child t)) firsts) (λ y. list_any (λ x. has y (axis_list doc x axis.Descendant t)) xs) (length doc) 0 (λ y low l.
      let there : y < length doc = omega (arith, l) in
      std_cmp.both_ways _ _
      (λ h. let z = any_member (λ z. has y (axis_list doc z axis.Child t)) firsts h in
      let within : z.0 < length doc = member_of_all (λ v. v < length doc) firsts z.0 (run_below 0 (length doc) firsts (rows_in_run doc xs itself_or_below)) z.1 in
      let told = told_from (λ v. list_any (λ x. has v (itself_or_below x)) xs) (length doc) 0 z.0 (omega arith) (omega (arith, within)) in
      let x = any_member (λ x. has z.0 (itself_or_below x)) xs (sym told ∙ z.1) in
      member_any (λ x. has y (axis_list doc x axis.Descendant t)) xs x.0 x.1 (child_below t x.0 z.0 y d within there x.2 z.2))
      (λ h. let x = any_member (λ x. has y (axis_list doc x axis.Descendant t)) xs h in
      let b = parent_between t x.0 y d there x.2 in
      let told = told_from (λ v. list_any (λ x. has v (itself_or_below x)) xs) (length doc) 0 b.row (omega arith) (omega (arith, b.within)) in
      member_any (λ z. has y (axis_list doc z axis.Child t)) firsts b.row (told ∙ member_any (λ x. has b.row (itself_or_below x)) xs x.0 x.1 b.from) b.child))

  rows_in_same : (xs : List ℕ) (f g : ℕ → List ℕ) → ((x : ℕ) → f x ≡ g x) → rows_in doc xs f ≡ rows_in doc xs g
  unfolding rows_in
  rows_in_same xs f g h = filter_same _ _ (rows doc) (λ y. any_by _ _ xs (λ x. ap (has y) (h x)))

  -- the rows below, and then the tests
  pub tested_below : (first second : Step) (xs : List ℕ) → IsDocument doc → IsAllBelow first → IsTestedChild second
      → kept (map (denote doc) (out-Step second).predicates) (rows_in doc xs (λ x. axis_list doc x axis.Descendant (out-Step second).test))
      ≡ rows_in doc (rows_in doc xs (walk_of doc first)) (walk_of doc second)
  tested_below first second xs d all tested =
      let ps = map (denote doc) (out-Step second).predicates in
      let firsts = rows_in doc xs itself_or_below in
      let walked : (x : ℕ) → itself_or_below x ≡ walk_of doc first x = λ x.
      ap (λ a. axis_list doc x a test.Node) (sym all.axis) ∙ ap (λ t. axis_list doc x (out-Step first).axis t) (sym all.test) ∙ sym (plain_walk doc first x all.plain) in
      ap (kept ps) (sym (joined (out-Step second).test xs d) ∙ ap (λ a. rows_in doc firsts (λ z. axis_list doc z a (out-Step second).test)) (sym tested.axis))
      ∙ tested_after doc second firsts tested.tests
      ∙ ap (λ v. rows_in doc v (walk_of doc second)) (rows_in_same xs itself_or_below (walk_of doc first) walked)
