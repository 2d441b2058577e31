-- What a comparison sees of a value is enough to tell it.
use Rattle.std.proofs.Common.{◌≡◌, refl, sym, ◌∙◌, ap, ℕ, suc, Bool, true, false, ◌&&◌, ◌||◌, subst, List, [], ◌∷◌, length, arith}
use Rattle.std.specs.Prelude.{filter, nat_lt, is_some, Option, Some, None}
use Rattle.std.specs.Option.{option_to_list}
use Rattle.std.specs.List.{All, range_with_len}
use Rattle.std.specs.Str.{bytes_eq}
use Rattle.std.proofs.lemmas.Bool.{and_parts, lt-ltb}
use Rattle.std.proofs.lemmas.List.Elements.{All-head, filter_passes}
use Rattle.doc_model.specs.declared.Axis.TheVariants as axis
use Rattle.doc_model.specs.declared.Kind.{Kind}
use Rattle.doc_model.specs.declared.Kind.TheVariants.{Root, Element, Attribute, Text, Comment}
use Rattle.doc_model.specs.declared.NodeTest.TheVariants as test
use Rattle.doc_model.specs.Attributes.{is_attribute_of}
use Rattle.doc_model.specs.Axes.{axis_list}
use Rattle.doc_model.specs.Document.{Document, row, rows, is_attribute, is_attribute_kind, is_parent}
use Rattle.doc_model.specs.StringValue.{string_value, string_value_of}
use Rattle.doc_model.specs.RowLists.{has, Run}
use Rattle.doc_model.proofs.Runs.{canonical, filter_run, same_filter}
use Rattle.xpath_values.specs.declared.value.Compare.{Compare}
use Rattle.xpath_values.specs.declared.value.XNum.{XNum}
use Rattle.xpath_values.specs.declared.value.Value.{Value}
use Rattle.xpath_values.specs.declared.value.Value.TheVariants.{Nodes, Num, Str, Bool as Truth}
use Rattle.xpath_values.specs.Atoms.{plain_of}
use Rattle.xpath_values.specs.Compares.{Plain, num, chars, plain_fits}
use Rattle.xpath_parser.specs.declared.expression.Expr.{Expr}
use Rattle.xpath_parser.specs.declared.expression.Step.{Step, out-Step}
use Rattle.xpath_parser.specs.Conversions.{fits, fits_row}
use Rattle.xpath_parser.specs.Functions.{Context}
use Rattle.xpath_parser.specs.Denote.{denote, walk_of, rows_in}
use Rattle.xpath_eval.specs.declared.quick.Side.{Side}
use Rattle.xpath_eval.specs.declared.quick.Side.TheVariants.{Nothing, One}
use Rattle.xpath_eval.specs.inner.Sides.{IsOne, IsSide, sides_fit}
use Rattle.xpath_eval.specs.inner.Steps.{IsAttributePath, IsAttributeStep}
use Rattle.xpath_eval.proofs.Counting.{lone_path, or_none}
use Rattle.xpath_eval.proofs.Covering.{plain_walk}
use Rattle.xpath_eval.proofs.Filtering.{filter_same}

module _ (doc : Document) where
  no_truth : (t : Bool) (b : Side) → IsSide doc (Truth t) b → ⊥
  no_truth t Nothing h = cc
  no_truth t (One a) h = h

  nothing_left : (c : Compare) (w : Value) (b : Side) → IsSide doc w b → false ≡ fits doc c (Nodes []) w
  nothing_left c (Nodes ys) b h = refl
  nothing_left c (Num n) b h = refl
  nothing_left c (Str s) b h = refl
  nothing_left c (Truth t) b h = absurd (no_truth t b h)

  nothing_right : (c : Compare) (v : Value) (p : Plain) → IsOne doc v p → false ≡ fits doc c v (Nodes [])
  nothing_right c (Nodes []) p h = absurd h
  nothing_right c (Nodes (x ∷ [])) p h = refl
  nothing_right c (Nodes (x ∷ y ∷ xs)) p h = absurd h
  nothing_right c (Num n) p h = refl
  nothing_right c (Str s) p h = refl
  nothing_right c (Truth t) p h = absurd h

  both : (c : Compare) (p q r s : Plain) → p ≡ r → q ≡ s → plain_fits c r s ≡ plain_fits c p q
  both c p q r s h k = ap (λ u. plain_fits c u s) (sym h) ∙ ap (plain_fits c p) (sym k)

  -- on the right side of one value
  row_right : (c : Compare) (x : ℕ) (w : Value) (p q : Plain) → chars (string_value doc x) ≡ p → IsOne doc w q → plain_fits c p q ≡ fits doc c (Nodes (x ∷ [])) w
  row_right c x (Nodes []) p q h k = absurd k
  row_right c x (Nodes (y ∷ [])) p q h k =
      both c (chars (string_value doc x)) (chars (string_value doc y)) p q h k ∙ sym (or_none _) ∙ sym (or_none (fits_row doc c (chars (string_value doc x)) (y ∷ [])))
  row_right c x (Nodes (y ∷ z ∷ ys)) p q h k = absurd k
  row_right c x (Num n) p q h k = both c (chars (string_value doc x)) (num n) p q h k ∙ sym (or_none _)
  row_right c x (Str s) p q h k = both c (chars (string_value doc x)) (chars s) p q h k ∙ sym (or_none _)
  row_right c x (Truth t) p q h k = absurd k

  num_right : (c : Compare) (n : XNum) (w : Value) (p q : Plain) → num n ≡ p → IsOne doc w q → plain_fits c p q ≡ fits doc c (Num n) w
  num_right c n (Nodes []) p q h k = absurd k
  num_right c n (Nodes (y ∷ [])) p q h k = both c (num n) (chars (string_value doc y)) p q h k ∙ sym (or_none _)
  num_right c n (Nodes (y ∷ z ∷ ys)) p q h k = absurd k
  num_right c n (Num m) p q h k = both c (num n) (num m) p q h k
  num_right c n (Str s) p q h k = both c (num n) (chars s) p q h k
  num_right c n (Truth t) p q h k = absurd k

  text_right : (c : Compare) (r : List ℕ) (w : Value) (p q : Plain) → chars r ≡ p → IsOne doc w q → plain_fits c p q ≡ fits doc c (Str r) w
  text_right c r (Nodes []) p q h k = absurd k
  text_right c r (Nodes (y ∷ [])) p q h k = both c (chars r) (chars (string_value doc y)) p q h k ∙ sym (or_none _)
  text_right c r (Nodes (y ∷ z ∷ ys)) p q h k = absurd k
  text_right c r (Num m) p q h k = both c (chars r) (num m) p q h k
  text_right c r (Str s) p q h k = both c (chars r) (chars s) p q h k
  text_right c r (Truth t) p q h k = absurd k

  ones_fit : (c : Compare) (v w : Value) (p q : Plain) → IsOne doc v p → IsOne doc w q → plain_fits c p q ≡ fits doc c v w
  ones_fit c (Nodes []) w p q h k = absurd h
  ones_fit c (Nodes (x ∷ [])) w p q h k = row_right c x w p q h k
  ones_fit c (Nodes (x ∷ y ∷ xs)) w p q h k = absurd h
  ones_fit c (Num n) w p q h k = num_right c n w p q h k
  ones_fit c (Str s) w p q h k = text_right c s w p q h k
  ones_fit c (Truth t) w p q h k = absurd h

  -- a comparison is told by what it sees
  pub seen : (c : Compare) (v w : Value) (a b : Side) → IsSide doc v a → IsSide doc w b → sides_fit c a b ≡ fits doc c v w
  seen c v w Nothing b h k = nothing_left c w b k ∙ ap (λ u. fits doc c u w) (sym h)
  seen c v w (One p) Nothing h k = nothing_right c v (plain_of p) h ∙ ap (fits doc c v) (sym k)
  seen c v w (One p) (One q) h k = ones_fit c v w (plain_of p) (plain_of q) h k

  -- ---- attributes

  value_of_kind : (k : Kind) (r : ℕ) → is_attribute_kind k ≡ true → string_value_of k doc r ≡ (row doc r).text
  value_of_kind Root r h = cc
  value_of_kind Element r h = cc
  value_of_kind Attribute r h = refl
  value_of_kind Text r h = cc
  value_of_kind Comment r h = cc

  -- the string value of the one attribute is its text
  pub attribute_value : (x y : ℕ) (name : List ℕ) → filter (is_attribute_of doc x name) (rows doc) ≡ y ∷ [] → string_value doc y ≡ (row doc y).text
  attribute_value x y name h =
      let all = subst (All (λ r. is_attribute_of doc x name r ≡ true)) h (filter_passes (is_attribute_of doc x name) (rows doc)) in
      let own = All-head (λ r. is_attribute_of doc x name r ≡ true) y [] all in
      value_of_kind (row doc y).kind y (and_parts (is_attribute doc y) _ own).0

  -- it is seen as its text
  pub one_attribute : (x y : ℕ) (name : List ℕ) (text : List ℕ) → filter (is_attribute_of doc x name) (rows doc) ≡ y ∷ [] → text ≡ (row doc y).text
      → IsOne doc (Nodes (filter (is_attribute_of doc x name) (rows doc))) (chars text)
  one_attribute x y name text h is =
      subst (λ rs. IsOne doc (Nodes rs) (chars text)) (sym h) (ap chars (attribute_value x y name h ∙ sym is))

  twice : (a p b : Bool) → ((a && p) && (a && b)) ≡ (a && (p && b))
  twice true p b = refl
  twice false p b = refl

  lone_list : (n : ℕ) (xs : List ℕ) → Run 0 n xs → filter (λ y. has y xs || false) (range_with_len 0 n) ≡ xs
  lone_list n xs r = same_filter _ (λ y. has y xs) n 0 (λ y _. or_none (has y xs)) ∙ canonical n 0 n xs (omega arith) r

  named_list : (x : ℕ) (name : List ℕ) → axis_list doc x axis.Attribute (test.Name name) ≡ filter (is_attribute_of doc x name) (rows doc)
  named_list x name = filter_same _ _ (rows doc) (λ y. twice (is_attribute doc y) (is_parent doc x y) (bytes_eq (row doc y).name name))

  some_item : (o : Option ℕ) (xs : List ℕ) → xs ≡ option_to_list o → is_some o ≡ nat_lt 0 (length xs)
  some_item None [] h = refl
  some_item None (x ∷ xs) h = cc
  some_item (Some y) [] h = cc
  some_item (Some y) (x ∷ xs) h = sym (lt-ltb 0 (length (x ∷ xs)) (let long : length (x ∷ xs) ≡ suc (length xs) = refl in omega (arith, long)))

  -- there is an attribute with the name where the step gives a row
  pub attribute_any : (s : Step) (x : ℕ) (name : List ℕ) (o : Option ℕ) → IsAttributeStep s name → filter (is_attribute_of doc x name) (rows doc) ≡ option_to_list o
      → is_some o ≡ nat_lt 0 (length (axis_list doc x (out-Step s).axis (out-Step s).test))
  attribute_any s x name o is h =
      some_item o (filter (is_attribute_of doc x name) (rows doc)) h
      ∙ ap (λ v. nat_lt 0 (length v)) (sym (ap (λ a. axis_list doc x a (out-Step s).test) is.axis ∙ ap (axis_list doc x axis.Attribute) is.test ∙ named_list x name))

  walked : (s : Step) (x : ℕ) (name : List ℕ) → (out-Step s).predicates ≡ [] → IsAttributeStep s name → walk_of doc s x ≡ filter (is_attribute_of doc x name) (rows doc)
  walked s x name plain is =
      plain_walk doc s x plain ∙ ap (λ a. axis_list doc x a (out-Step s).test) is.axis ∙ ap (axis_list doc x axis.Attribute) is.test ∙ named_list x name

  own_rows : (s : Step) (x : ℕ) (name : List ℕ) → (out-Step s).predicates ≡ [] → IsAttributeStep s name → rows_in doc (x ∷ []) (walk_of doc s) ≡ filter (is_attribute_of doc x name) (rows doc)
  unfolding rows_in
  own_rows s x name plain is =
      ap (λ v. filter (λ y. has y v || false) (rows doc)) (walked s x name plain is)
      ∙ lone_list (length doc) _ (filter_run (is_attribute_of doc x name) (length doc) 0 (length doc) (omega arith))

  -- a step to an attribute gives the attribute with the name
  pub attribute_path : (e : Expr) (name : List ℕ) (c : Context) → IsAttributePath e name → denote doc e c ≡ Nodes (filter (is_attribute_of doc c.row name) (rows doc))
  attribute_path e name c is =
      ap (λ v. denote doc v c) is.path.path ∙ lone_path doc is.step c ∙ ap Nodes (own_rows is.step c.row name is.path.plain is.named)
