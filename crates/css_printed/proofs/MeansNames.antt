-- Names as node tests with their predicates, and texts as literals.
use Rattle.std.proofs.Common.{◌≡◌, refl, ℕ, Bool, true, false, ◌&&◌, cond, eqb, List, [], ◌∷◌, ◌++◌, ap, sym, ◌∙◌, filter, map, Option, Some, None}
use Rattle.std.specs.Prelude.{flat_map}
use Rattle.std.specs.List.{list_any}
use Rattle.std.specs.Str.{bytes_eq}
use Rattle.std.proofs.lemmas.List.{append-nil}
use Rattle.std.proofs.lemmas.Bool.{and_parts}
use Rattle.doc_model.specs.declared.Axis.{Axis}
use Rattle.doc_model.specs.declared.Axis.TheVariants as axis
use Rattle.doc_model.specs.declared.NodeTest.TheVariants as node
use Rattle.doc_model.specs.Document.{Document, row, rows, is_attribute, is_parent}
use Rattle.doc_model.specs.Axes.{on_axis, passes, is_principal}
use Rattle.css_selectors.specs.declared.selector.Dialect.{Dialect}
use Rattle.css_meaning.specs.Matching.{folded, has_name}
use Rattle.css_meaning.specs.Attributes.{is_attribute_of}
use Rattle.css_meaning.proofs.ListTests as lists
use Rattle.xpath_values.specs.declared.value.Value.TheVariants.{Nodes, Str}
use Rattle.xpath_values.specs.declared.value.Compare.TheVariants as compare
use Rattle.xpath_parser.specs.declared.expression.Expr.TheVariants as e
use Rattle.xpath_parser.specs.declared.expression.Func.TheVariants as f
use Rattle.xpath_parser.specs.declared.expression.Infix.TheVariants as infix_of
use Rattle.xpath_parser.specs.Conversions.{text_of}
use Rattle.xpath_parser.specs.Functions.{Context}
use Rattle.xpath_parser.specs.Denote.{has, denote, walk_of}
use Rattle.xpath_parser.proofs.Equations as eq
use Rattle.css_printed.specs.Literals.{Quoted, add, quote_of, quoted_runs, literal_parts, is_apostrophe, is_double}
use Rattle.css_printed.specs.Names.{is_plain}
use Rattle.css_printed.specs.inner.Predicates.{literal, literal_of, named, test_of_name, predicates_of_name, node_test, name_brackets, elements, attribute, attribute_step, plain_attribute}
use Rattle.css_printed.proofs.PathsKept.{Is, Keep, keep_none, keep_one, step_has}
use Rattle.css_printed.proofs.MeansValues.{Value_at, is_truth, at_two, at_step, at_bare_step}

-- ---- literals

abbrev pub content : List Quoted → List ℕ
content qs = flat_map (λ q. q.content) qs

add_content : (c : ℕ) (qs : List Quoted) → content (add c qs) ≡ c ∷ content qs
add_content c [] = refl
add_content c (q ∷ qs) = add_at (eqb (quote_of c) q.quote)
  where
    add_at : (b : Bool) → content (cond b (record { quote = q.quote; content = c ∷ q.content } ∷ qs) (record { quote = quote_of c; content = c ∷ [] } ∷ (q ∷ qs))) ≡ c ∷ content (q ∷ qs)
    add_at true = refl
    add_at false = refl

runs_content : (x : List ℕ) → content (quoted_runs x) ≡ x
runs_content [] = refl
runs_content (c ∷ x) = add_content c (quoted_runs x) ∙ ap (λ r. c ∷ r) (runs_content x)

parts_content : (x : List ℕ) → content (literal_parts x) ≡ x
parts_content x = at (list_any is_apostrophe x) (list_any is_double x)
  where
    at : (a d : Bool) → content (cond a (cond d (quoted_runs x) (record { quote = 34; content = x } ∷ [])) (record { quote = 39; content = x } ∷ [])) ≡ x
    at true true = runs_content x
    at true false = append-nil x
    at false d = append-nil x

concat_literals : (doc : Document) (c : Context) (qs : List Quoted) → flat_map (text_of doc) (map (λ x. denote doc x c) (map (λ q. e.Literal q.content) qs)) ≡ content qs
concat_literals doc c [] = refl
concat_literals doc c (q ∷ qs) =
    ap (λ v. text_of doc v ++ flat_map (text_of doc) (map (λ x. denote doc x c) (map (λ r. e.Literal r.content) qs))) (eq.at_literal doc q.content c)
    ∙ ap (λ r. q.content ++ r) (concat_literals doc c qs)

literal_value : (doc : Document) (c : Context) (qs : List Quoted) → denote doc (literal_of qs) c ≡ Str (content qs)
literal_value doc c [] = eq.at_literal doc [] c
literal_value doc c (q ∷ []) = eq.at_literal doc q.content c ∙ ap Str (sym (append-nil q.content))
literal_value doc c (q ∷ r ∷ rs) = eq.at_call doc f.Concat (map (λ s. e.Literal s.content) (q ∷ r ∷ rs)) c ∙ ap Str (concat_literals doc c (q ∷ r ∷ rs))

-- a literal stands for its text
pub at_text : (doc : Document) (s : List ℕ) (x : ℕ) → Value_at doc (literal s) x (Str s)
at_text doc s x at size = literal_value doc (record { row = x; position = at; size = size }) (literal_parts s) ∙ ap Str (parts_content s)

on_last : (p o t : Bool) → (p && (o && t)) ≡ (o && (t && p))
on_last true true t = sym (lists.and_true t)
on_last true false t = refl
on_last false true t = sym (lists.and_false t)
on_last false false t = refl

module _ (doc : Document) where
  -- ---- names

  -- what the predicates on a name keep: those are there where the name is not plain
  abbrev pub name_kept : List ℕ → ℕ → Bool
  name_kept n y = cond (is_plain n) true (bytes_eq (row doc y).name n)

  pub is_named : (n : List ℕ) (y : ℕ) → Is doc (named n) y (bytes_eq (row doc y).name n)
  is_named n y = is_truth doc (named n) y (bytes_eq (row doc y).name n)
      (at_two doc (e.Call f.Name []) (literal n) (infix_of.Compare compare.Equal) y (Str (row doc y).name) (Str n)
      (λ at size. eq.at_call doc f.Name [] (record { row = y; position = at; size = size })) (at_text doc n y))

  pub keep_name : (kind : ℕ → Bool) (n : List ℕ) → Keep doc kind (predicates_of_name n) (name_kept n)
  keep_name kind n = at (is_plain n)
    where
      at : (b : Bool) → Keep doc kind (cond b [] (named n ∷ [])) (λ y. cond b true (bytes_eq (row doc y).name n))
      at true = keep_none doc kind
      at false = keep_one doc kind (named n) (λ y. bytes_eq (row doc y).name n) (λ y h. is_named n y)

  pub passes_name : (a : Axis) (n : List ℕ) (y : ℕ) → (passes doc a (test_of_name n) y && name_kept n y) ≡ (is_principal a doc y && bytes_eq (row doc y).name n)
  passes_name a n y = at (is_plain n)
    where
      at : (b : Bool) → (passes doc a (cond b (node.Name n) node.AnyName) y && cond b true (bytes_eq (row doc y).name n)) ≡ (is_principal a doc y && bytes_eq (row doc y).name n)
      at true = lists.and_true (is_principal a doc y && bytes_eq (row doc y).name n)
      at false = refl

  name_principal : (a : Axis) (n : List ℕ) (y : ℕ) → passes doc a (test_of_name n) y ≡ true → is_principal a doc y ≡ true
  name_principal a n y = at (is_plain n)
    where
      at : (b : Bool) → passes doc a (cond b (node.Name n) node.AnyName) y ≡ true → is_principal a doc y ≡ true
      at true h = (and_parts (is_principal a doc y) _ h).0
      at false h = h

  -- ---- the name of a part, or none

  abbrev pub element_kept : Dialect → Option (List ℕ) → ℕ → Bool
  element_kept d None y = true
  element_kept d (Some n) y = name_kept (folded d n) y

  pub keep_element : (kind : ℕ → Bool) (d : Dialect) (el : Option (List ℕ)) → Keep doc kind (name_brackets d el) (element_kept d el)
  keep_element kind d None = keep_none doc kind
  keep_element kind d (Some n) = keep_name kind (folded d n)

  pub passes_element : (a : Axis) (d : Dialect) (el : Option (List ℕ)) (y : ℕ) → (passes doc a (node_test d el) y && element_kept d el y) ≡ (is_principal a doc y && has_name doc d el y)
  passes_element a d None y = refl
  passes_element a d (Some n) y = passes_name a (folded d n) y

  pub element_principal : (a : Axis) (d : Dialect) (el : Option (List ℕ)) (y : ℕ) → passes doc a (node_test d el) y ≡ true → is_principal a doc y ≡ true
  element_principal a d None y h = h
  element_principal a d (Some n) y h = name_principal a (folded d n) y h

  -- the elements of the axis that have the name
  pub at_elements : (d : Dialect) (a : Axis) (el : Option (List ℕ)) (x : ℕ)
      → Value_at doc (elements d a el) x (Nodes (filter (λ y. on_axis doc a x y && (is_principal a doc y && has_name doc d el y)) (rows doc)))
  at_elements d a el x at size =
      at_step doc (λ y. true) a (node_test d el) (name_brackets d el) (element_kept d el) x (λ z h i. refl) (keep_element (λ y. true) d el) at size
      ∙ ap Nodes (lists.filter_same _ _ (λ y. on_last (element_kept d el y) (on_axis doc a x y) _ ∙ ap (λ b. on_axis doc a x y && b) (passes_element a d el y)) (rows doc))

  -- ---- attributes

  attribute_test : (a p n : Bool) → ((a && p) && (a && n)) ≡ (a && (p && n))
  attribute_test true p n = refl
  attribute_test false p n = refl

  attribute_has : (n : List ℕ) (x y : ℕ) → (name_kept n y && (on_axis doc axis.Attribute x y && passes doc axis.Attribute (test_of_name n) y)) ≡ is_attribute_of doc x n y
  attribute_has n x y =
      on_last (name_kept n y) (on_axis doc axis.Attribute x y) _ ∙ ap (λ b. on_axis doc axis.Attribute x y && b) (passes_name axis.Attribute n y)
      ∙ attribute_test (is_attribute doc y) (is_parent doc x y) (bytes_eq (row doc y).name n)

  -- the attributes of the name
  pub at_attribute : (d : Dialect) (n : List ℕ) (x : ℕ) → Value_at doc (attribute d n) x (Nodes (filter (is_attribute_of doc x (folded d n)) (rows doc)))
  at_attribute d n x at size =
      at_step doc (λ y. true) axis.Attribute (test_of_name (folded d n)) (predicates_of_name (folded d n)) (name_kept (folded d n)) x (λ z h i. refl) (keep_name (λ y. true) (folded d n)) at size
      ∙ ap Nodes (lists.filter_same _ _ (attribute_has (folded d n) x) (rows doc))

  pub at_plain_attribute : (n : List ℕ) (x : ℕ) → Value_at doc (plain_attribute n) x (Nodes (filter (is_attribute_of doc x n) (rows doc)))
  at_plain_attribute n x at size =
      at_bare_step doc axis.Attribute (node.Name n) x at size
      ∙ ap Nodes (lists.filter_same _ _ (λ y. attribute_test (is_attribute doc y) (is_parent doc x y) (bytes_eq (row doc y).name n)) (rows doc))

  -- and as a step
  pub attribute_walk : (d : Dialect) (n : List ℕ) (x y : ℕ) → has y (rows doc) ≡ true → has y (walk_of doc (attribute_step d n) x) ≡ is_attribute_of doc x (folded d n) y
  attribute_walk d n x y among =
      step_has doc (λ z. true) axis.Attribute (test_of_name (folded d n)) (predicates_of_name (folded d n)) (name_kept (folded d n)) x y (λ z h i. refl) (keep_name (λ z. true) (folded d n)) among
      ∙ attribute_has (folded d n) x y
