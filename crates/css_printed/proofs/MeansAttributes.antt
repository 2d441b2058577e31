-- The predicates on attributes, of which an element has at most one of a name.
use Rattle.std.proofs.Common.{◌≡◌, refl, ℕ, ◌<◌, Bool, true, false, ◌&&◌, ◌||◌, not, cond, eqb, List, [], ◌∷◌, ◌++◌, length, ap, sym, ◌∙◌, subst, filter, arith, inl, inr, ltb}
use Rattle.std.specs.Prelude.{codes}
use Rattle.std.specs.List.{list_any}
use Rattle.std.specs.Str.{bytes_eq}
use Rattle.std.proofs.lemmas.Bool.{and_parts, eqb-true, ltb-true, cases_lt}
use Rattle.std.proofs.lemmas.List.{get_or_past}
use Rattle.text_base.specs.Strings.{is_empty, starts_with, contains}
use Rattle.doc_model.specs.declared.Kind.{Kind}
use Rattle.doc_model.specs.declared.Kind.TheVariants.{Root, Element, Attribute, Text, Comment}
use Rattle.doc_model.specs.Document.{Document, Row, no_row, row, rows, is_attribute, is_attribute_kind, is_parent, IsDocument}
use Rattle.doc_model.specs.StringValue.{string_value, string_value_of}
use Rattle.css_meaning.specs.Attributes.{suffix_test, word_test, is_attribute_of, has_value, has_attribute, dash_test, prefix_test, substring_test}
use Rattle.css_meaning.proofs.ListTests as lists
use Rattle.text_base.proofs.PartLemmas.{same_means}
use Rattle.xpath_values.specs.declared.value.Value.TheVariants.{Nodes, Num, Str, Bool as Truth}
use Rattle.xpath_values.specs.declared.value.Compare.TheVariants as compare
use Rattle.xpath_values.specs.Strings.{substring_from, normalized}
use Rattle.xpath_parser.specs.declared.expression.Expr.{Expr}
use Rattle.xpath_parser.specs.declared.expression.Expr.TheVariants as e
use Rattle.xpath_parser.specs.declared.expression.Func.TheVariants as f
use Rattle.xpath_parser.specs.declared.expression.Infix.TheVariants as infix_of
use Rattle.xpath_parser.specs.Conversions.{is_any, text_of_rows}
use Rattle.xpath_parser.specs.Denote.{has}
use Rattle.css_printed.specs.inner.Predicates.{literal, equals, both, number, dash_predicate, prefix_predicate, substring_predicate, suffix_predicate, word_predicate, joins}
use Rattle.css_printed.proofs.PathsKept.{Is}
use Rattle.css_printed.proofs.MeansValues.{Value_at, is_truth, is_nodes, is_never, any_kept, at_two, at_both, at_either, at_call_one, at_call_two, at_call_three, at_number}
use Rattle.css_printed.proofs.MeansNames.{at_text}
use Rattle.css_printed.proofs.MeansSuffix.{suffix_same}
use Rattle.css_meaning.specs.Limits.{Countable, NoFormFeed}
use Rattle.css_printed.proofs.MeansWords.{word_between}
use Rattle.text_base.specs.Text.{is_space5}
use Rattle.std.specs.Prelude.{pos, ◌^◌, ◌-◌}
use Rattle.xpath_values.specs.Numbers.{whole, num_sub}
use Rattle.text_base.specs.Strings.{ends_with, is_among, runs}

module _ (doc : Document) where
  -- the attributes of x that have the name
  abbrev pub found : ℕ → List ℕ → List ℕ
  found x n = filter (is_attribute_of doc x n) (rows doc)

  attribute_kind : (k : Kind) → is_attribute_kind k ≡ true → k ≡ Attribute
  attribute_kind Root h = cc
  attribute_kind Element h = cc
  attribute_kind Attribute h = refl
  attribute_kind Text h = cc
  attribute_kind Comment h = cc

  value_of_kind : (k : Kind) (r : ℕ) → is_attribute_kind k ≡ true → string_value_of k doc r ≡ (row doc r).text
  value_of_kind Root r h = cc
  value_of_kind Element r h = cc
  value_of_kind Attribute r h = refl
  value_of_kind Text r h = cc
  value_of_kind Comment r h = cc

  pub attribute_value : (r : ℕ) → is_attribute doc r ≡ true → string_value doc r ≡ (row doc r).text
  attribute_value r h = value_of_kind (row doc r).kind r h

  within : (r : ℕ) → is_attribute doc r ≡ true → r < length doc
  within r h = elim (cases_lt r (length doc)) [
    | inl l ↦ l
    | inr past ↦ absurd (let none : false ≡ true = sym (ap (λ (v : Row). is_attribute_kind v.kind) (get_or_past doc r no_row past)) ∙ h in cc)
  ]

  pub record IsOf (x : ℕ) (n : List ℕ) (r : ℕ) : Type 0 where
    pub within : r < length doc
    pub some : 0 < r
    pub kind : (row doc r).kind ≡ Attribute
    pub parent : (row doc r).parent ≡ x
    pub name : (row doc r).name ≡ n

  pub is_of : (x : ℕ) (n : List ℕ) (r : ℕ) → is_attribute_of doc x n r ≡ true → IsOf x n r
  is_of x n r h =
      let a : (is_attribute doc r ≡ true) × ((is_parent doc x r && bytes_eq (row doc r).name n) ≡ true) = and_parts (is_attribute doc r) _ h in
      let b : (is_parent doc x r ≡ true) × (bytes_eq (row doc r).name n ≡ true) = and_parts (is_parent doc x r) _ a.1 in
      let c : (ltb 0 r ≡ true) × (eqb (row doc r).parent x ≡ true) = and_parts (ltb 0 r) _ b.0 in
      record { within = within r a.0; some = ltb-true 0 r c.0; kind = attribute_kind _ a.0; parent = eqb-true _ _ c.1; name = (same_means (row doc r).name n).0 b.1 }

  apart : IsDocument doc → (x : ℕ) (n : List ℕ) (y z : ℕ) → IsOf x n y → IsOf x n z → y < z → ⊥
  apart is x n y z a b l = (is.rest z b.some b.within).distinct b.kind y l a.kind (a.parent ∙ sym b.parent) (a.name ∙ sym b.name)

  -- a document has at most one attribute of a name at an element
  only_one : IsDocument doc → (x : ℕ) (n : List ℕ) (y z : ℕ) → IsOf x n y → IsOf x n z → y ≡ z
  only_one is x n y z a b = elim (cases_lt y z) [
    | inl l ↦ absurd (apart is x n y z a b l)
    | inr ge ↦ elim (cases_lt z y) [ inl l ↦ absurd (apart is x n z y b a l) | inr le ↦ omega arith ]
  ]

  all_same : (q : ℕ → Bool) (b : Bool) (xs : List ℕ) → ((y : ℕ) → has y xs ≡ true → q y ≡ b) → (b || list_any q xs) ≡ b
  all_same q b [] h = lists.or_false b
  all_same q true (x ∷ xs) h = refl
  all_same q false (x ∷ xs) h = ap (λ v. v || list_any q xs) (h x (lists.in_first x xs)) ∙ all_same q false xs (λ y i. h y (lists.in_rest x y xs i))

  value_in : (test : List ℕ → Bool) (xs : List ℕ) → ((y : ℕ) → has y xs ≡ true → is_attribute doc y ≡ true) → ((y z : ℕ) → has y xs ≡ true → has z xs ≡ true → y ≡ z)
      → list_any (λ r. test (row doc r).text) xs ≡ (is_any xs && test (text_of_rows doc xs))
  value_in test [] kind one = refl
  value_in test (x ∷ xs) kind one =
      all_same (λ r. test (row doc r).text) (test (row doc x).text) xs (λ y i. ap (λ v. test (row doc v).text) (one y x (lists.in_rest x y xs i) (lists.in_first x xs)))
      ∙ ap test (sym (attribute_value x (kind x (lists.in_first x xs))))

  pub found_is : (x : ℕ) (n : List ℕ) (y : ℕ) → has y (found x n) ≡ true → is_attribute_of doc x n y ≡ true
  found_is x n y h = (and_parts (is_attribute_of doc x n y) _ (sym (lists.in_filter (is_attribute_of doc x n) (rows doc) y) ∙ h)).0

  -- a test of the value: the attribute is there, and its string passes
  pub value_is : IsDocument doc → (x : ℕ) (n : List ℕ) (test : List ℕ → Bool) → has_value doc x n test ≡ (is_any (found x n) && test (text_of_rows doc (found x n)))
  value_is is x n test =
      sym (lists.any_filter (is_attribute_of doc x n) (λ r. test (row doc r).text) (rows doc))
      ∙ value_in test (found x n) (λ y i. (and_parts (is_attribute doc y) _ (found_is x n y i)).0)
      (λ y z i j. only_one is x n y z (is_of x n y (found_is x n y i)) (is_of x n z (found_is x n z j)))

  guarded : (a b c : Bool) → (a ≡ true → b ≡ c) → (a && b) ≡ (a && c)
  guarded true b c h = h refl
  guarded false b c h = refl

  -- ---- the predicates, for an expression that gives the attributes of the name

  module _ (a : Expr) (n : List ℕ) (at_a : (x : ℕ) → Value_at doc a x (Nodes (found x n))) where
    pub exists_is : (x : ℕ) → Is doc a x (has_attribute doc x n)
    exists_is x at size = is_nodes doc a x _ (at_a x) at size ∙ any_kept (is_attribute_of doc x n) (rows doc) ∙ lists.any_same _ _ (λ r. sym (lists.and_true (is_attribute_of doc x n r))) (rows doc)

    pub at_equals : (v : List ℕ) (x : ℕ) → Value_at doc (equals a (literal v)) x (Truth (has_value doc x n (λ t. bytes_eq t v)))
    at_equals v x at size =
        at_two doc a (literal v) (infix_of.Compare compare.Equal) x (Nodes (found x n)) (Str v) (at_a x) (at_text doc v x) at size
        ∙ ap Truth (lists.any_filter (is_attribute_of doc x n) (λ r. bytes_eq (string_value doc r) v) (rows doc)
        ∙ lists.any_same _ _ (λ r. guarded (is_attribute_of doc x n r) _ _ (λ h. ap (λ t. bytes_eq t v) (attribute_value r (and_parts (is_attribute doc r) _ h).0))) (rows doc))

    pub equals_is : (v : List ℕ) (x : ℕ) → Is doc (equals a (literal v)) x (has_value doc x n (λ t. bytes_eq t v))
    equals_is v x = is_truth doc (equals a (literal v)) x _ (at_equals v x)

    at_starts : (v : List ℕ) (x : ℕ) → Value_at doc (e.Call f.StartsWith (a ∷ literal v ∷ [])) x (Truth (starts_with (text_of_rows doc (found x n)) v))
    at_starts v x at size =
        at_call_two doc f.StartsWith a (literal v) x (Nodes (found x n)) (Str v) (at_a x) (at_text doc v x) at size

    at_contains : (v : List ℕ) (x : ℕ) → Value_at doc (e.Call f.Contains (a ∷ literal v ∷ [])) x (Truth (contains (text_of_rows doc (found x n)) v))
    at_contains v x at size =
        at_call_two doc f.Contains a (literal v) x (Nodes (found x n)) (Str v) (at_a x) (at_text doc v x) at size

    -- the attribute is there, and more
    pub with_attribute : IsDocument doc → (p : Expr) (test : List ℕ → Bool) (x : ℕ) → Value_at doc p x (Truth (test (text_of_rows doc (found x n)))) → Is doc (both a p) x (has_value doc x n test)
    with_attribute is p test x h at size =
        is_truth doc (both a p) x _ (at_both doc a p x (Nodes (found x n)) (Truth (test (text_of_rows doc (found x n)))) (at_a x) h) at size ∙ sym (value_is is x n test)

    dashed : (a b c : Bool) → (a && ((a && b) || c)) ≡ (a && (b || c))
    dashed true b c = refl
    dashed false b c = refl

    pub dash_is : IsDocument doc → (v : List ℕ) (x : ℕ) → Is doc (dash_predicate a v) x (has_value doc x n (λ t. dash_test t v))
    dash_is is v x at size =
        is_truth doc (dash_predicate a v) x _ (at_both doc a (e.Or (equals a (literal v) ∷ e.Call f.StartsWith (a ∷ literal (v ++ codes "-") ∷ []) ∷ [])) x (Nodes (found x n)) _ (at_a x)
        (at_either doc (equals a (literal v)) (e.Call f.StartsWith (a ∷ literal (v ++ codes "-") ∷ [])) x _ _ (at_equals v x) (at_starts (v ++ codes "-") x))) at size
        ∙ ap (λ b. is_any (found x n) && (b || starts_with (text_of_rows doc (found x n)) (v ++ codes "-"))) (value_is is x n (λ t. bytes_eq t v))
        ∙ dashed (is_any (found x n)) (bytes_eq (text_of_rows doc (found x n)) v) (starts_with (text_of_rows doc (found x n)) (v ++ codes "-"))
        ∙ sym (value_is is x n (λ t. dash_test t v))

    -- nothing has the empty text
    none_has : (x : ℕ) → has_value doc x n (λ t. false) ≡ false
    none_has x = lists.any_same _ _ (λ r. lists.and_false (is_attribute_of doc x n r)) (rows doc) ∙ lists.any_none (rows doc)

    unless_empty : (empty : Bool) (p : Expr) (test : List ℕ → Bool) (x : ℕ) → Is doc p x (has_value doc x n test) → Is doc (cond empty (number 0) p) x (has_value doc x n (λ t. not empty && test t))
    unless_empty true p test x h at size = is_never doc x at size ∙ sym (none_has x)
    unless_empty false p test x h at size = h at size

    pub prefix_is : IsDocument doc → (v : List ℕ) (x : ℕ) → Is doc (prefix_predicate a v) x (has_value doc x n (λ t. prefix_test t v))
    prefix_is is v x = unless_empty (is_empty v) (both a (e.Call f.StartsWith (a ∷ literal v ∷ []))) (λ t. starts_with t v) x (with_attribute is _ (λ t. starts_with t v) x (at_starts v x))

    pub substring_is : IsDocument doc → (v : List ℕ) (x : ℕ) → Is doc (substring_predicate a v) x (has_value doc x n (λ t. substring_test t v))
    substring_is is v x = unless_empty (is_empty v) (both a (e.Call f.Contains (a ∷ literal v ∷ []))) (λ t. contains t v) x (with_attribute is _ (λ t. contains t v) x (at_contains v x))

    -- ---- how the value ends

    found_small : Countable doc → (x : ℕ) → length (text_of_rows doc (found x n)) < 2 ^ 53
    found_small c x = at (found x n) (λ y i. found_is x n y i)
      where
        at : (xs : List ℕ) → ((y : ℕ) → has y xs ≡ true → is_attribute_of doc x n y ≡ true) → length (text_of_rows doc xs) < 2 ^ 53
        at [] h = omega arith
        at (y ∷ xs) h =
            let kind : is_attribute doc y ≡ true = (and_parts (is_attribute doc y) _ (h y (lists.in_first y xs))).0 in
            subst (λ t. length t < 2 ^ 53) (sym (attribute_value y kind)) (c.values y kind)

    at_suffix : (v : List ℕ) (x : ℕ) → Value_at doc (equals (e.Call f.Substring (a ∷ joins infix_of.Sub (e.Call f.StringLength (a ∷ [])) (number (length v - 1)) ∷ [])) (literal v)) x
        (Truth (bytes_eq (substring_from (text_of_rows doc (found x n)) (num_sub (whole (pos (length (text_of_rows doc (found x n))))) (whole (pos (length v - 1))))) v))
    at_suffix v x =
        at_two doc (e.Call f.Substring (a ∷ joins infix_of.Sub (e.Call f.StringLength (a ∷ [])) (number (length v - 1)) ∷ [])) (literal v) (infix_of.Compare compare.Equal) x
        (Str (substring_from (text_of_rows doc (found x n)) (num_sub (whole (pos (length (text_of_rows doc (found x n))))) (whole (pos (length v - 1)))))) (Str v)
        (at_call_two doc f.Substring a (joins infix_of.Sub (e.Call f.StringLength (a ∷ [])) (number (length v - 1))) x (Nodes (found x n)) _ (at_a x)
        (at_two doc (e.Call f.StringLength (a ∷ [])) (number (length v - 1)) infix_of.Sub x (Num (whole (pos (length (text_of_rows doc (found x n)))))) (Num (whole (pos (length v - 1))))
        (at_call_one doc f.StringLength a x (Nodes (found x n)) (at_a x)) (at_number doc (pos (length v - 1)) x))) (at_text doc v x)

    suffix_at : (b : Bool) (v : List ℕ) → is_empty v ≡ b → IsDocument doc → Countable doc → (x : ℕ)
        → Is doc (cond b (number 0) (both a (equals (e.Call f.Substring (a ∷ joins infix_of.Sub (e.Call f.StringLength (a ∷ [])) (number (length v - 1)) ∷ [])) (literal v)))) x (has_value doc x n (λ t. not b && ends_with t v))
    suffix_at true v h is c x at size = is_never doc x at size ∙ sym (none_has x)
    suffix_at false v h is c x at size = with_attribute is _ (λ t. ends_with t v) x (λ i j. at_suffix v x i j ∙ ap Truth (suffix_same (text_of_rows doc (found x n)) v h (found_small c x))) at size

    pub suffix_is : IsDocument doc → Countable doc → (v : List ℕ) (x : ℕ) → Is doc (suffix_predicate a v) x (has_value doc x n (λ t. suffix_test t v))
    suffix_is is c v x = suffix_at (is_empty v) v refl is c x

    -- ---- the words of the value

    abbrev bounded : Expr
    bounded = e.Call f.Concat (literal (codes " ") ∷ e.Call f.NormalizeSpace (a ∷ []) ∷ literal (codes " ") ∷ [])

    at_word : (v : List ℕ) (x : ℕ) → Value_at doc (e.Call f.Contains (bounded ∷ literal (codes " " ++ (v ++ codes " ")) ∷ [])) x
        (Truth (contains (32 ∷ (normalized (text_of_rows doc (found x n)) ++ 32 ∷ [])) (32 ∷ (v ++ 32 ∷ []))))
    at_word v x at size =
        at_call_two doc f.Contains bounded (literal (codes " " ++ (v ++ codes " "))) x (Str (32 ∷ (normalized (text_of_rows doc (found x n)) ++ 32 ∷ []))) (Str (codes " " ++ (v ++ codes " ")))
        (at_call_three doc f.Concat (literal (codes " ")) (e.Call f.NormalizeSpace (a ∷ [])) (literal (codes " ")) x (Str (codes " ")) (Str (normalized (text_of_rows doc (found x n)))) (Str (codes " "))
        (at_text doc (codes " ") x) (at_call_one doc f.NormalizeSpace a x (Nodes (found x n)) (at_a x)) (at_text doc (codes " ") x))
        (at_text doc (codes " " ++ (v ++ codes " ")) x) at size

    word_at : (some clear : Bool) (v : List ℕ) → is_empty v ≡ some → list_any is_space5 v ≡ clear → IsDocument doc → NoFormFeed doc → (x : ℕ)
        → Is doc (cond (some || clear) (number 0) (both a (e.Call f.Contains (bounded ∷ literal (codes " " ++ (v ++ codes " ")) ∷ [])))) x
        (has_value doc x n (λ t. not some && (not clear && is_among v (runs is_space5 t))))
    word_at true clear v h k is calm x at size = is_never doc x at size ∙ sym (none_has x)
    word_at false true v h k is calm x at size = is_never doc x at size ∙ sym (none_has x)
    word_at false false v h k is calm x at size =
        with_attribute is _ (λ t. contains (32 ∷ (normalized t ++ 32 ∷ [])) (32 ∷ (v ++ 32 ∷ []))) x (at_word v x) at size
        ∙ lists.any_same _ _ (λ r. guarded (is_attribute_of doc x n r) _ _ (λ i. word_between (row doc r).text v (calm r (and_parts (is_attribute doc r) _ i).0) k h)) (rows doc)

    pub word_is : IsDocument doc → NoFormFeed doc → (v : List ℕ) (x : ℕ) → Is doc (word_predicate a v) x (has_value doc x n (λ t. word_test t v))
    word_is is calm v x = word_at (is_empty v) (list_any is_space5 v) v refl refl is calm x
