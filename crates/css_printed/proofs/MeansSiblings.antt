-- The siblings that are counted, and the position among them.
use Rattle.std.proofs.Common.{◌≡◌, refl, ℕ, suc, ◌^◌, ◌<◌, ◌≤◌, Bool, true, false, ◌&&◌, ◌||◌, not, cond, eqb, ltb, List, [], ◌∷◌, ◌++◌, length, ap, sym, ◌∙◌, filter, arith, lt-ltb, Option, Some, None}
use Rattle.std.specs.Prelude.{IsSome, ℤ, pos}
use Rattle.std.specs.List.{list_any}
use Rattle.std.specs.Str.{bytes_eq}
use Rattle.std.proofs.lemmas.List.FromFn.{length-range_with_len}
use Rattle.std.proofs.lemmas.Bool.{and_parts}
use Rattle.doc_model.specs.declared.Axis.TheVariants as axis
use Rattle.doc_model.specs.declared.NodeTest.TheVariants as node
use Rattle.doc_model.specs.Document.{Document, row, rows, is_element, is_attribute, IsDocument}
use Rattle.doc_model.specs.Axes.{are_siblings}
use Rattle.css_selectors.specs.declared.selector.Dialect.{Dialect}
use Rattle.css_selectors.specs.declared.selector.Nth.{Nth}
use Rattle.css_selectors.specs.declared.selector.Nth.TheVariants as nth
use Rattle.css_meaning.proofs.Only.{count_none, first_position}
use Rattle.css_meaning.specs.Names.{folded, has_name}
use Rattle.css_meaning.specs.Siblings.{is_sibling, is_of_type, count_before, count_after, position, is_only}
use Rattle.css_meaning.specs.Limits.{Countable}
use Rattle.css_meaning.specs.Nth.{is_nth}
use Rattle.css_selectors.specs.WellMade.{IsSmall, FitsKind}
use Rattle.css_meaning.proofs.ListTests as lists
use Rattle.text_base.proofs.PartLemmas.{same_means}
use Rattle.xpath_values.specs.declared.value.Value.TheVariants.{Nodes}
use Rattle.css_printed.specs.inner.Predicates.{siblings, nth_predicates}
use Rattle.text_base.proofs.Swaps.{flip}
use Rattle.css_printed.proofs.Links.{is_no_attribute}
use Rattle.css_printed.proofs.PathsKept.{Keep, keep_both, keep_same}
use Rattle.css_printed.proofs.MeansValues.{Value_at, at_bare_step}
use Rattle.css_printed.proofs.MeansNames.{at_elements}
use Rattle.css_printed.proofs.MeansParts.{is_named_element}
use Rattle.css_printed.proofs.MeansPseudo.{element_some}
use Rattle.css_printed.proofs.MeansNth.{nth_keeps}
use Rattle.std.proofs.lemmas.Bool.Decides.{nat_tests}

kept_length : (p : ℕ → Bool) (xs : List ℕ) → length (filter p xs) ≤ length xs
kept_length p [] = omega arith
kept_length p (x ∷ xs) = elim (p x) as (λ b. length (cond b (x ∷ filter p xs) (filter p xs)) ≤ suc (length xs)) [
  | true ↦ (let l : length (filter p xs) ≤ length xs = kept_length p xs in omega arith)
  | false ↦ (let l : length (filter p xs) ≤ length xs = kept_length p xs in omega arith)
]

-- of two siblings, where the one is an element
sibling_test : (x0 y0 xa ya same el : Bool) → x0 ≡ true → xa ≡ true → (el ≡ true → ya ≡ true) → ((x0 && (y0 && (xa && (ya && same)))) && el) ≡ (el && (y0 && same))
sibling_test x0 y0 xa ya same true a b c = rw (a, b, c refl) (lists.and_true (y0 && same))
sibling_test x0 y0 xa ya same false a b c = lists.and_false _

moved : (s less el : Bool) → ((s && less) && el) ≡ ((s && el) && less)
moved true true el = sym (lists.and_true el)
moved true false true = refl
moved true false false = refl
moved false less el = refl

named_last : (s less el n : Bool) → ((s && less) && (el && n)) ≡ (((s && el) && n) && less)
named_last true true el n = sym (lists.and_true (el && n))
named_last true false true n = sym (lists.and_false n)
named_last true false false n = refl
named_last false less el n = refl

module _ (doc : Document) (is : IsDocument doc) (d : Dialect) (el : Option (List ℕ)) where
  beside : (x y : ℕ) → is_element doc x ≡ true → (are_siblings doc x y && is_element doc y) ≡ is_sibling doc x y
  beside x y h =
      sibling_test (ltb 0 x) (ltb 0 y) (not (is_attribute doc x)) (not (is_attribute doc y)) (eqb (row doc x).parent (row doc y).parent) (is_element doc y)
      (lt-ltb 0 x (element_some doc is x h)) (is_no_attribute doc x h) (is_no_attribute doc y)
      ∙ ap (λ b. is_element doc y && (ltb 0 y && b)) (flip (row doc x).parent (row doc y).parent)

  -- the rows that are counted at x
  abbrev pub counted : Nth → ℕ → List ℕ
  counted nth.Child x = filter (λ y. is_sibling doc x y && ltb y x) (rows doc)
  counted nth.LastChild x = filter (λ y. is_sibling doc x y && ltb x y) (rows doc)
  counted nth.OfType x = filter (λ y. is_of_type doc x y && ltb y x) (rows doc)
  counted nth.LastOfType x = filter (λ y. is_of_type doc x y && ltb x y) (rows doc)

  pub counted_small : Countable doc → (kind : Nth) (x : ℕ) → length (counted kind x) < 2 ^ 53
  counted_small c kind x = at kind
    where
      under : (p : ℕ → Bool) → length (filter p (rows doc)) < 2 ^ 53
      under p = let l : length (filter p (rows doc)) ≤ length (rows doc) = kept_length p (rows doc) in omega (arith, length-range_with_len 0 (length doc), c.all_rows)

      at : (k : Nth) → length (counted k x) < 2 ^ 53
      at nth.Child = under _
      at nth.LastChild = under _
      at nth.OfType = under _
      at nth.LastOfType = under _

  pub counted_position : (kind : Nth) (x : ℕ) → suc (length (counted kind x)) ≡ position doc kind x
  counted_position nth.Child x = refl
  counted_position nth.LastChild x = refl
  counted_position nth.OfType x = refl
  counted_position nth.LastOfType x = refl

  type_same : (m : Option (List ℕ)) → IsSome m → (x y : ℕ) → is_named_element doc d m x ≡ true → has_name doc d m y ≡ bytes_eq (row doc y).name (row doc x).name
  type_same None s x y h = let z = s in cc
  type_same (Some n) s x y h = ap (bytes_eq (row doc y).name) (sym ((same_means (row doc x).name (folded d n)).0 (and_parts (is_element doc x) _ h).1))

  typed_beside : IsSome el → (x y : ℕ) (less : Bool) → is_named_element doc d el x ≡ true
      → ((are_siblings doc x y && less) && (is_element doc y && has_name doc d el y)) ≡ (is_of_type doc x y && less)
  typed_beside some x y less h =
      named_last (are_siblings doc x y) less (is_element doc y) (has_name doc d el y)
      ∙ ap (λ b. (b && has_name doc d el y) && less) (beside x y (and_parts (is_element doc x) _ h).0)
      ∙ ap (λ b. (is_sibling doc x y && b) && less) (type_same el some x y h)

  kind_siblings : (kind : Nth) → FitsKind el kind → (x : ℕ) → is_named_element doc d el x ≡ true → Value_at doc (siblings d el kind) x (Nodes (counted kind x))
  kind_siblings nth.Child fits x h at size =
      at_bare_step doc axis.PrecedingSibling node.AnyName x at size
      ∙ ap Nodes (lists.filter_same _ _ (λ y. moved (are_siblings doc x y) (ltb y x) (is_element doc y) ∙ ap (λ b. b && ltb y x) (beside x y (and_parts (is_element doc x) _ h).0)) (rows doc))
  kind_siblings nth.LastChild fits x h at size =
      at_bare_step doc axis.FollowingSibling node.AnyName x at size
      ∙ ap Nodes (lists.filter_same _ _ (λ y. moved (are_siblings doc x y) (ltb x y) (is_element doc y) ∙ ap (λ b. b && ltb x y) (beside x y (and_parts (is_element doc x) _ h).0)) (rows doc))
  kind_siblings nth.OfType fits x h at size =
      at_elements doc d axis.PrecedingSibling el x at size ∙ ap Nodes (lists.filter_same _ _ (λ y. typed_beside fits x y (ltb y x) h) (rows doc))
  kind_siblings nth.LastOfType fits x h at size =
      at_elements doc d axis.FollowingSibling el x at size ∙ ap Nodes (lists.filter_same _ _ (λ y. typed_beside fits x y (ltb x y) h) (rows doc))

  -- `an+b` keeps the elements at its positions
  pub position_keeps : Countable doc → (kind : Nth) → FitsKind el kind → (a b : ℤ) → IsSmall a → IsSmall b
      → Keep doc (is_named_element doc d el) (nth_predicates d el kind a b) (λ y. is_nth a b (position doc kind y))
  position_keeps c kind fits a b h k =
      keep_same doc (is_named_element doc d el) (nth_predicates d el kind a b) (λ y. is_nth a b (suc (length (counted kind y)))) _ (λ y i. ap (is_nth a b) (counted_position kind y))
      (nth_keeps doc (is_named_element doc d el) (siblings d el kind) (counted kind) (counted_small c kind) (kind_siblings kind fits) a b h k)

  -- ---- no other

  apart_test : (z y : ℕ) → (ltb z y || ltb y z) ≡ not (eqb z y)
  apart_test z y = grind (arith, nat_tests)

  nor : (a b : Bool) → (not a && not b) ≡ not (a || b)
  nor true b = refl
  nor false b = refl

  only_test : (p : ℕ → Bool) (y : ℕ)
      → (eqb (length (filter (λ z. p z && ltb z y) (rows doc))) 0 && eqb (length (filter (λ z. p z && ltb y z) (rows doc))) 0) ≡ is_only doc p y
  only_test p y =
      ap (λ b. b && eqb (length (filter (λ z. p z && ltb y z) (rows doc))) 0) (sym (count_none (λ z. p z && ltb z y) (rows doc)))
      ∙ ap (λ b. not (list_any (λ z. p z && ltb z y) (rows doc)) && b) (sym (count_none (λ z. p z && ltb y z) (rows doc)))
      ∙ nor _ _
      ∙ ap not (sym (lists.any_or (λ z. p z && ltb z y) (λ z. p z && ltb y z) (rows doc))
      ∙ lists.any_same _ _ (λ z. sym (lists.and_or_left (p z) (ltb z y) (ltb y z)) ∙ ap (λ b. p z && b) (apart_test z y)) (rows doc))

  one_small : IsSmall (pos 1)
  one_small = omega arith

  none_small : IsSmall (pos 0)
  none_small = omega arith

  pub only_child : Countable doc → Keep doc (is_named_element doc d el) (nth_predicates d el nth.Child (pos 0) (pos 1) ++ nth_predicates d el nth.LastChild (pos 0) (pos 1)) (λ y. is_only doc (is_sibling doc y) y)
  only_child c =
      keep_same doc (is_named_element doc d el) (nth_predicates d el nth.Child (pos 0) (pos 1) ++ nth_predicates d el nth.LastChild (pos 0) (pos 1))
      (λ y. is_nth (pos 0) (pos 1) (position doc nth.Child y) && is_nth (pos 0) (pos 1) (position doc nth.LastChild y)) _
      (λ y i. ap (λ b. b && is_nth (pos 0) (pos 1) (position doc nth.LastChild y)) (first_position (count_before doc (is_sibling doc y) y))
      ∙ ap (λ b. eqb (count_before doc (is_sibling doc y) y) 0 && b) (first_position (count_after doc (is_sibling doc y) y)) ∙ only_test (is_sibling doc y) y)
      (keep_both doc (is_named_element doc d el) (nth_predicates d el nth.Child (pos 0) (pos 1)) (nth_predicates d el nth.LastChild (pos 0) (pos 1)) _ _
      (position_keeps c nth.Child tt (pos 0) (pos 1) none_small one_small) (position_keeps c nth.LastChild tt (pos 0) (pos 1) none_small one_small))

  pub only_of_type : Countable doc → IsSome el → Keep doc (is_named_element doc d el) (nth_predicates d el nth.OfType (pos 0) (pos 1) ++ nth_predicates d el nth.LastOfType (pos 0) (pos 1)) (λ y. is_only doc (is_of_type doc y) y)
  only_of_type c some =
      keep_same doc (is_named_element doc d el) (nth_predicates d el nth.OfType (pos 0) (pos 1) ++ nth_predicates d el nth.LastOfType (pos 0) (pos 1))
      (λ y. is_nth (pos 0) (pos 1) (position doc nth.OfType y) && is_nth (pos 0) (pos 1) (position doc nth.LastOfType y)) _
      (λ y i. ap (λ b. b && is_nth (pos 0) (pos 1) (position doc nth.LastOfType y)) (first_position (count_before doc (is_of_type doc y) y))
      ∙ ap (λ b. eqb (count_before doc (is_of_type doc y) y) 0 && b) (first_position (count_after doc (is_of_type doc y) y)) ∙ only_test (is_of_type doc y) y)
      (keep_both doc (is_named_element doc d el) (nth_predicates d el nth.OfType (pos 0) (pos 1)) (nth_predicates d el nth.LastOfType (pos 0) (pos 1)) _ _
      (position_keeps c nth.OfType some (pos 0) (pos 1) none_small one_small) (position_keeps c nth.LastOfType some (pos 0) (pos 1) none_small one_small))
