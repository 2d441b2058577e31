-- The predicates of pseudo-classes that look at parents, children, names and attributes alone.
use Rattle.std.proofs.Common.{◌≡◌, ◌≢◌, refl, ℕ, ◌<◌, Bool, true, false, ◌&&◌, ◌||◌, not, eqb, ltb, List, [], ◌∷◌, length, ap, sym, ◌∙◌, filter, map, arith, ◌⊎◌, inl, inr, lt-ltb}
use Rattle.std.specs.Prelude.{codes}
use Rattle.std.specs.List.{list_any}
use Rattle.std.specs.Str.{bytes_eq}
use Rattle.std.proofs.lemmas.Bool.{and_parts, and_from, eqb-true, eq-eqb, cases_lt, false_from_ne_true}
use Rattle.text_base.specs.Strings.{is_among, contains}
use Rattle.doc_model.specs.declared.Kind.{Kind}
use Rattle.doc_model.specs.declared.Kind.TheVariants.{Root, Element, Attribute, Text, Comment}
use Rattle.doc_model.specs.declared.Axis.TheVariants as axis
use Rattle.doc_model.specs.declared.NodeTest.TheVariants as node
use Rattle.doc_model.specs.Document.{Document, Row, row, rows, is_element, is_text, is_attribute, is_element_kind, is_text_kind, is_attribute_kind, is_parent, IsDocument, IsRow}
use Rattle.doc_model.specs.StringValue.{string_value}
use Rattle.css_selectors.specs.declared.selector.Dialect.{Dialect}
use Rattle.css_selectors.specs.declared.selector.Dialect.TheVariants.{Generic, Html}
use Rattle.css_meaning.specs.Attributes.{is_attribute_of, has_value, has_attribute}
use Rattle.css_meaning.specs.Simples.{is_empty_element, is_link, is_checked, is_control, is_enabled, is_disabled, is_one_of, in_html}
use Rattle.css_meaning.proofs.ListTests as lists
use Rattle.css_meaning.proofs.Finding.{in_rows, row_within}
use Rattle.xpath_values.specs.declared.value.Value.TheVariants.{Nodes, Str, Bool as Truth}
use Rattle.xpath_parser.specs.declared.expression.Expr.{Expr}
use Rattle.xpath_parser.specs.declared.expression.Expr.TheVariants as e
use Rattle.xpath_parser.specs.declared.expression.Func.TheVariants as f
use Rattle.xpath_parser.specs.Conversions.{is_any, text_of_rows, truth_of}
use Rattle.xpath_parser.specs.Denote.{has, denote}
use Rattle.css_printed.specs.inner.Predicates.{path, literal, both, not_one, self_named, one_of, control, plain_attribute, equals, html_predicate, link_predicate, checked_predicate}
use Rattle.text_base.proofs.Swaps.{flip}
use Rattle.css_printed.proofs.PathsKept.{Is}
use Rattle.css_printed.proofs.MeansValues as values
use Rattle.css_printed.proofs.MeansValues.{Value_at, is_truth, is_never, any_kept, at_not, at_both, at_either, at_or, at_and, at_call_two, at_bare_step, Truths_at}
use Rattle.css_printed.proofs.MeansNames.{at_text, at_plain_attribute}
use Rattle.css_printed.proofs.MeansAttributes.{found, at_equals}
use Rattle.css_printed.proofs.MeansParts.{element_row, self_any}

same_nor : (a b : Bool) → (not a && not b) ≡ not (a || b)
same_nor true b = refl
same_nor false b = refl

module _ (doc : Document) where
  -- ---- no children

  child_kinds : (k : Kind) (p : Bool) → (((not (is_attribute_kind k) && p) && is_element_kind k) || ((not (is_attribute_kind k) && p) && is_text_kind k)) ≡ (p && (is_element_kind k || is_text_kind k))
  child_kinds Root true = refl
  child_kinds Root false = refl
  child_kinds Element true = refl
  child_kinds Element false = refl
  child_kinds Attribute true = refl
  child_kinds Attribute false = refl
  child_kinds Text true = refl
  child_kinds Text false = refl
  child_kinds Comment true = refl
  child_kinds Comment false = refl

  pub empty_is : (x : ℕ) → Is doc (both (not_one (path axis.Child node.AnyName [])) (not_one (path axis.Child node.Text []))) x (is_empty_element doc x)
  empty_is x at size =
      is_truth doc (both (not_one (path axis.Child node.AnyName [])) (not_one (path axis.Child node.Text []))) x _
      (at_both doc (not_one (path axis.Child node.AnyName [])) (not_one (path axis.Child node.Text [])) x _ _
      (at_not doc (path axis.Child node.AnyName []) x _ (at_bare_step doc axis.Child node.AnyName x)) (at_not doc (path axis.Child node.Text []) x _ (at_bare_step doc axis.Child node.Text x))) at size
      ∙ same_nor _ _
      ∙ ap not (ap (λ b. b || is_any (filter (λ y. (not (is_attribute doc y) && is_parent doc x y) && is_text doc y) (rows doc))) (any_kept (λ y. (not (is_attribute doc y) && is_parent doc x y) && is_element doc y) (rows doc))
      ∙ ap (λ b. list_any (λ y. (not (is_attribute doc y) && is_parent doc x y) && is_element doc y) (rows doc) || b) (any_kept (λ y. (not (is_attribute doc y) && is_parent doc x y) && is_text doc y) (rows doc))
      ∙ sym (lists.any_or (λ y. (not (is_attribute doc y) && is_parent doc x y) && is_element doc y) (λ y. (not (is_attribute doc y) && is_parent doc x y) && is_text doc y) (rows doc))
      ∙ lists.any_same _ _ (λ y. child_kinds (row doc y).kind (is_parent doc x y)) (rows doc))

  -- ---- no element as parent

  -- an element is behind row 0
  pub element_some : IsDocument doc → (x : ℕ) → is_element doc x ≡ true → 0 < x
  element_some is x h = elim (cases_lt 0 x) [
    | inl l ↦ l
    | inr le ↦ absurd (let zero_row : x ≡ 0 = omega arith in
        let none : is_element doc x ≡ false = ap (is_element doc) zero_row ∙ ap (λ (r : Row). is_element_kind r.kind) is.root in
        let no : false ≡ true = sym none ∙ h in cc)
  ]

  parent_kind : (k : Kind) → (k ≡ Root) ⊎ (k ≡ Element) → k ≢ Root → is_element_kind k ≡ true
  parent_kind k (inl root) n = absurd (n root)
  parent_kind k (inr element) n = ap is_element_kind element

  -- the parent is an element, or row 0
  parent_element : IsDocument doc → (x : ℕ) → 0 < x → x < length doc → is_element doc (row doc x).parent ≡ not (eqb (row doc x).parent 0)
  parent_element is x some within = elim (cases_lt 0 (row doc x).parent) [
    | inl l ↦ (
        let r : IsRow doc x = is.rest x some within in
        let up : (row doc x).parent < x = r.parent in
        let p : IsRow doc (row doc x).parent = is.rest (row doc x).parent l (omega arith) in
        parent_kind (row doc (row doc x).parent).kind r.owner p.kind ∙ sym (ap not (apart_zero (row doc x).parent l)))
    | inr le ↦ (let z : (row doc x).parent ≡ 0 = omega arith in
        ap (is_element doc) z ∙ ap (λ (r : Row). is_element_kind r.kind) is.root ∙ sym (ap not (eq-eqb (row doc x).parent 0 z)))
  ]
    where
      apart_zero : (p : ℕ) → 0 < p → eqb p 0 ≡ false
      apart_zero p h = false_from_ne_true _ (λ t. let z : p ≡ 0 = eqb-true p 0 t in omega arith)

  rooted : (n : Bool) → not (true && not n) ≡ (true && n)
  rooted true = refl
  rooted false = refl

  root_is_at : IsDocument doc → (x : ℕ) → is_element doc x ≡ true → x < length doc → Is doc (not_one (path axis.Parent node.AnyName [])) x (is_parent doc 0 x)
  root_is_at is x h within at size =
      let some : 0 < x = element_some is x h in
      let up : (row doc x).parent < x = (is.rest x some within).parent in
      let l : ltb 0 x ≡ true = lt-ltb 0 x some in
      is_truth doc (not_one (path axis.Parent node.AnyName [])) x _ (at_not doc (path axis.Parent node.AnyName []) x _ (at_bare_step doc axis.Parent node.AnyName x)) at size
      ∙ ap not (any_kept (λ y. is_parent doc y x && is_element doc y) (rows doc)
      ∙ lists.any_same _ _ (λ y. ap (λ b. (b && eqb (row doc x).parent y) && is_element doc y) l ∙ flipped y) (rows doc)
      ∙ self_any doc (is_element doc) (row doc x).parent (in_rows doc (row doc x).parent (omega arith))
      ∙ parent_element is x some within)
      ∙ rooted (eqb (row doc x).parent 0) ∙ ap (λ b. b && eqb (row doc x).parent 0) (sym l)
    where
      flipped : (y : ℕ) → ((true && eqb (row doc x).parent y) && is_element doc y) ≡ (eqb y (row doc x).parent && is_element doc y)
      flipped y = ap (λ b. b && is_element doc y) (flip (row doc x).parent y)

  pub root_is : IsDocument doc → (x : ℕ) → is_element doc x ≡ true → Is doc (not_one (path axis.Parent node.AnyName [])) x (is_parent doc 0 x)
  root_is is x h = root_is_at is x h (row_within doc x (element_row doc x h))

  -- ---- the string of the element

  own_first : (x : ℕ) (xs : List ℕ) → ((y : ℕ) → has y xs ≡ true → y ≡ x) → has x xs ≡ true → text_of_rows doc xs ≡ string_value doc x
  own_first x [] own h = cc
  own_first x (y ∷ xs) own h = ap (string_value doc) (own y (lists.in_first y xs))

  pub contains_is : (v : List ℕ) (x : ℕ) → has x (rows doc) ≡ true → Is doc (e.Call f.Contains (path axis.OwnSelf node.Node [] ∷ literal v ∷ [])) x (contains (string_value doc x) v)
  contains_is v x among at size =
      is_truth doc (e.Call f.Contains (path axis.OwnSelf node.Node [] ∷ literal v ∷ [])) x _
      (at_call_two doc f.Contains (path axis.OwnSelf node.Node []) (literal v) x (Nodes (filter (λ y. eqb y x && true) (rows doc))) (Str v) (at_bare_step doc axis.OwnSelf node.Node x) (at_text doc v x)) at size
      ∙ ap (λ t. contains t v) (own_first x (filter (λ y. eqb y x && true) (rows doc))
      (λ y i. eqb-true y x (and_parts (eqb y x) _ (and_parts _ _ (sym (lists.in_filter (λ z. eqb z x && true) (rows doc) y) ∙ i)).0).0)
      (lists.in_filter (λ z. eqb z x && true) (rows doc) x ∙ and_from _ _ (and_from _ _ (eq-eqb x x refl) refl) among))

  -- ---- elements of some names

  self_is : (n : List ℕ) (x : ℕ) → is_element doc x ≡ true → (at size : ℕ) → truth_of (denote doc (self_named n) (record { row = x; position = at; size = size })) ≡ bytes_eq (row doc x).name n
  self_is n x is at size =
      ap truth_of (at_bare_step doc axis.OwnSelf (node.Name n) x at size) ∙ any_kept (λ y. eqb y x && (is_element doc y && bytes_eq (row doc y).name n)) (rows doc)
      ∙ self_any doc (λ y. is_element doc y && bytes_eq (row doc y).name n) x (element_row doc x is) ∙ ap (λ b. b && bytes_eq (row doc x).name n) is

  selves : (names : List (List ℕ)) (x : ℕ) → is_element doc x ≡ true → Truths_at doc (map self_named names) x (map (λ n. bytes_eq (row doc x).name n) names)
  selves [] x is = tt
  selves (n ∷ names) x is = (self_is n x is, selves names x is)

  bytes_flip : (a b : List ℕ) → bytes_eq a b ≡ bytes_eq b a
  bytes_flip [] [] = refl
  bytes_flip [] (y ∷ b) = refl
  bytes_flip (x ∷ a) [] = refl
  bytes_flip (x ∷ a) (y ∷ b) = ap (λ t. t && bytes_eq a b) (flip x y) ∙ ap (λ t. eqb y x && t) (bytes_flip a b)

  among_same : (names : List (List ℕ)) (v : List ℕ) → values.one_of doc (map (λ n. bytes_eq v n) names) ≡ is_among v names
  among_same [] v = refl
  among_same (n ∷ names) v = ap (λ t. t || values.one_of doc (map (λ m. bytes_eq v m) names)) (bytes_flip v n) ∙ ap (λ t. bytes_eq n v || t) (among_same names v)

  at_one_of : (names : List (List ℕ)) (x : ℕ) → is_element doc x ≡ true → Value_at doc (one_of names) x (Truth (is_one_of doc names x))
  at_one_of names x is at size = at_or doc (map self_named names) x _ (selves names x is) at size ∙ ap Truth (among_same names (row doc x).name)

  there : (n : List ℕ) (x : ℕ) → is_any (found doc x n) ≡ has_attribute doc x n
  there n x = any_kept (is_attribute_of doc x n) (rows doc) ∙ lists.any_same _ _ (λ r. sym (lists.and_true (is_attribute_of doc x n r))) (rows doc)

  pub link_is : (x : ℕ) → is_element doc x ≡ true → Is doc link_predicate x (is_link doc x)
  link_is x is at size =
      is_truth doc link_predicate x _ (at_both doc (plain_attribute (codes "href")) (one_of (codes "a" ∷ codes "area" ∷ codes "link" ∷ [])) x _ _ (at_plain_attribute doc (codes "href") x) (at_one_of (codes "a" ∷ codes "area" ∷ codes "link" ∷ []) x is)) at size
      ∙ ap (λ b. b && is_one_of doc (codes "a" ∷ codes "area" ∷ codes "link" ∷ []) x) (there (codes "href") x)

  pub disabled_is : (x : ℕ) → is_element doc x ≡ true → Is doc (both (plain_attribute (codes "disabled")) control) x (is_disabled doc x)
  disabled_is x is at size =
      is_truth doc (both (plain_attribute (codes "disabled")) control) x _ (at_both doc (plain_attribute (codes "disabled")) control x _ _ (at_plain_attribute doc (codes "disabled") x)
      (at_one_of (codes "button" ∷ codes "fieldset" ∷ codes "input" ∷ codes "optgroup" ∷ codes "option" ∷ codes "select" ∷ codes "textarea" ∷ []) x is)) at size
      ∙ ap (λ b. b && is_control doc x) (there (codes "disabled") x)

  pub enabled_is : (x : ℕ) → is_element doc x ≡ true → Is doc (both (not_one (plain_attribute (codes "disabled"))) control) x (is_enabled doc x)
  enabled_is x is at size =
      is_truth doc (both (not_one (plain_attribute (codes "disabled"))) control) x _ (at_both doc (not_one (plain_attribute (codes "disabled"))) control x _ _
      (at_not doc (plain_attribute (codes "disabled")) x _ (at_plain_attribute doc (codes "disabled") x))
      (at_one_of (codes "button" ∷ codes "fieldset" ∷ codes "input" ∷ codes "optgroup" ∷ codes "option" ∷ codes "select" ∷ codes "textarea" ∷ []) x is)) at size
      ∙ ap (λ b. not b && is_control doc x) (there (codes "disabled") x)

  has_either : (x : ℕ) (n : List ℕ) (p q : List ℕ → Bool) → (has_value doc x n p || has_value doc x n q) ≡ has_value doc x n (λ t. p t || q t)
  has_either x n p q =
      sym (lists.any_or (λ r. is_attribute_of doc x n r && p (row doc r).text) (λ r. is_attribute_of doc x n r && q (row doc r).text) (rows doc))
      ∙ lists.any_same _ _ (λ r. sym (lists.and_or_left (is_attribute_of doc x n r) (p (row doc r).text) (q (row doc r).text))) (rows doc)

  has_same : (x : ℕ) (n : List ℕ) (p q : List ℕ → Bool) → ((t : List ℕ) → p t ≡ q t) → has_value doc x n p ≡ has_value doc x n q
  has_same x n p q h = lists.any_same _ _ (λ r. ap (λ b. is_attribute_of doc x n r && b) (h (row doc r).text)) (rows doc)

  two_among : (a b t : List ℕ) → (bytes_eq t a || bytes_eq t b) ≡ is_among t (a ∷ b ∷ [])
  two_among a b t = ap (λ v. v || bytes_eq t b) (bytes_flip t a) ∙ ap (λ v. bytes_eq a t || v) (bytes_flip t b ∙ sym (lists.or_false (bytes_eq b t)))

  one_among : (n : List ℕ) (x : ℕ) → bytes_eq (row doc x).name n ≡ is_one_of doc (n ∷ []) x
  one_among n x = bytes_flip (row doc x).name n ∙ sym (lists.or_false (bytes_eq n (row doc x).name))

  typed : (x : ℕ) → Value_at doc (e.Or (equals (plain_attribute (codes "type")) (literal (codes "checkbox")) ∷ equals (plain_attribute (codes "type")) (literal (codes "radio")) ∷ [])) x
      (Truth (has_value doc x (codes "type") (λ t. is_among t (codes "checkbox" ∷ codes "radio" ∷ []))))
  typed x at size =
      at_either doc (equals (plain_attribute (codes "type")) (literal (codes "checkbox"))) (equals (plain_attribute (codes "type")) (literal (codes "radio"))) x _ _
      (at_equals doc (plain_attribute (codes "type")) (codes "type") (at_plain_attribute doc (codes "type")) (codes "checkbox") x)
      (at_equals doc (plain_attribute (codes "type")) (codes "type") (at_plain_attribute doc (codes "type")) (codes "radio") x) at size
      ∙ ap Truth (has_either x (codes "type") (λ t. bytes_eq t (codes "checkbox")) (λ t. bytes_eq t (codes "radio"))
      ∙ has_same x (codes "type") _ _ (two_among (codes "checkbox") (codes "radio")))

  there_at : (n : List ℕ) (x : ℕ) → (at size : ℕ) → truth_of (denote doc (plain_attribute n) (record { row = x; position = at; size = size })) ≡ has_attribute doc x n
  there_at n x at size = ap truth_of (at_plain_attribute doc n x at size) ∙ there n x

  option_selected : (x : ℕ) → is_element doc x ≡ true → Value_at doc (e.And (plain_attribute (codes "selected") ∷ self_named (codes "option") ∷ [])) x (Truth (has_attribute doc x (codes "selected") && is_one_of doc (codes "option" ∷ []) x))
  option_selected x is at size =
      at_and doc (plain_attribute (codes "selected") ∷ self_named (codes "option") ∷ []) x (has_attribute doc x (codes "selected") ∷ bytes_eq (row doc x).name (codes "option") ∷ [])
      (there_at (codes "selected") x, (self_is (codes "option") x is, tt)) at size
      ∙ ap (λ b. Truth (has_attribute doc x (codes "selected") && b)) (lists.and_true _ ∙ one_among (codes "option") x)

  input_checked : (x : ℕ) → is_element doc x ≡ true
      → Value_at doc (e.And (plain_attribute (codes "checked") ∷ self_named (codes "input") ∷ e.Or (equals (plain_attribute (codes "type")) (literal (codes "checkbox")) ∷ equals (plain_attribute (codes "type")) (literal (codes "radio")) ∷ []) ∷ [])) x
      (Truth (has_attribute doc x (codes "checked") && (is_one_of doc (codes "input" ∷ []) x && has_value doc x (codes "type") (λ t. is_among t (codes "checkbox" ∷ codes "radio" ∷ [])))))
  input_checked x is at size =
      at_and doc _ x (has_attribute doc x (codes "checked") ∷ bytes_eq (row doc x).name (codes "input") ∷ has_value doc x (codes "type") (λ t. is_among t (codes "checkbox" ∷ codes "radio" ∷ [])) ∷ [])
      (there_at (codes "checked") x, (self_is (codes "input") x is, ((λ i j. ap truth_of (typed x i j)), tt))) at size
      ∙ ap (λ b. Truth (has_attribute doc x (codes "checked") && (bytes_eq (row doc x).name (codes "input") && b))) (lists.and_true _)
      ∙ ap (λ b. Truth (has_attribute doc x (codes "checked") && (b && has_value doc x (codes "type") (λ t. is_among t (codes "checkbox" ∷ codes "radio" ∷ []))))) (one_among (codes "input") x)

  pub checked_is : (x : ℕ) → is_element doc x ≡ true → Is doc checked_predicate x (is_checked doc x)
  checked_is x is = is_truth doc checked_predicate x _ (at_either doc (both (plain_attribute (codes "selected")) (self_named (codes "option")))
      (e.And (plain_attribute (codes "checked") ∷ self_named (codes "input") ∷ e.Or (equals (plain_attribute (codes "type")) (literal (codes "checkbox")) ∷ equals (plain_attribute (codes "type")) (literal (codes "radio")) ∷ []) ∷ [])) x _ _
      (option_selected x is) (input_checked x is))

  pub in_html_is : (d : Dialect) (p : Expr) (b : Bool) (x : ℕ) → Is doc p x b → Is doc (html_predicate d p) x (in_html d b)
  in_html_is Generic p b x h = is_never doc x
  in_html_is Html p b x h = h
