-- The predicates on languages: the nearest attribute upwards decides.
use Rattle.std.proofs.Common.{◌≡◌, refl, ℕ, Bool, true, false, ◌&&◌, ◌||◌, cond, eqb, List, [], ◌∷◌, ◌++◌, length, ap, sym, ◌∙◌, filter, map, reverse}
use Rattle.std.specs.Prelude.{codes}
use Rattle.std.specs.Char.{to_ascii_lowercase}
use Rattle.std.specs.List.{list_any}
use Rattle.std.specs.Str.{bytes_eq}
use Rattle.std.proofs.lemmas.List.{reverse-append, append-nil}
use Rattle.std.proofs.lemmas.Bool.{and_parts}
use Rattle.text_base.specs.Strings.{starts_with}
use Rattle.doc_model.specs.declared.Axis.TheVariants as axis
use Rattle.doc_model.specs.declared.NodeTest.TheVariants as node
use Rattle.doc_model.specs.Document.{Document, row, rows, is_element, is_attribute, is_element_kind, below, IsDocument}
use Rattle.css_selectors.specs.declared.selector.Dialect.{Dialect}
use Rattle.css_selectors.specs.declared.selector.Dialect.TheVariants.{Generic, Html}
use Rattle.css_meaning.specs.Attributes.{is_attribute_of, has_value, has_attribute, lang_test}
use Rattle.css_meaning.specs.Language.{lang_name, gives_language, lang_holds}
use Rattle.css_meaning.proofs.ListTests as lists
use Rattle.xpath_values.specs.declared.value.Value.TheVariants.{Nodes, Str, Bool as Truth}
use Rattle.xpath_values.specs.Strings.{translated}
use Rattle.xpath_parser.specs.declared.expression.Expr.TheVariants as e
use Rattle.xpath_parser.specs.declared.expression.Func.TheVariants as f
use Rattle.xpath_parser.specs.Conversions.{is_any, text_of_rows}
use Rattle.xpath_parser.specs.Functions.{attributes_named, is_language, language_of, language_at, lang}
use Rattle.xpath_parser.specs.Denote.{has, denote, kept, rows_in, walk_of, path as walked}
use Rattle.xpath_parser.proofs.Equations as eq
use Rattle.xpath_parser.proofs.Equations.{at_made}
use Rattle.xpath_parser.specs.declared.expression.Start.TheVariants.{Here}
use Rattle.css_printed.specs.inner.Predicates.{step, path, number, literal, plain_attribute, lang_begins, lang_predicate}
use Rattle.text_base.proofs.Lists.{filter_twice}
use Rattle.text_base.proofs.Swaps.{flip, swap}
use Rattle.css_printed.proofs.PathsKept.{Is, Keep, keep_one}
use Rattle.css_printed.proofs.MeansLower.{translated_lower}
use Rattle.css_printed.proofs.MeansValues.{Value_at, is_truth, is_nodes, any_kept, at_call_one, at_call_two, at_call_three}
use Rattle.css_printed.proofs.MeansNames.{at_text, at_plain_attribute}
use Rattle.css_printed.proofs.MeansAttributes.{IsOf, is_of, found, value_is, found_is, attribute_value}
use Rattle.css_printed.proofs.MeansParts.{self_any}
use Rattle.css_printed.proofs.Paths.{found_in}
use Rattle.doc_model.specs.Axes.{on_axis}
use Rattle.css_printed.proofs.LinksNext.{first_of, one_kept}
use Rattle.css_printed.proofs.MeansLast.{last_of, first_reversed, has_last}

last_in : (xs : List ℕ) (y : ℕ) → has y (last_of xs) ≡ true → has y xs ≡ true
last_in [] y h = h
last_in (x ∷ xs) y h = at (is_any xs) h (last_in xs y)
  where
    at : (b : Bool) → has y (cond b (last_of xs) (x ∷ [])) ≡ true → (has y (last_of xs) ≡ true → has y xs ≡ true) → (eqb x y || has y xs) ≡ true
    at true h more = lists.in_rest x y xs (more h)
    at false h more = ap (λ b. b || has y xs) (sym (lists.or_false (eqb x y)) ∙ h)

-- one test by its two names
language_same : (doc : Document) (x t : List ℕ) → is_language doc x t ≡ lang_test t x
language_same doc x t = refl

module _ (doc : Document) where
  members_any : (q : ℕ → Bool) (xs : List ℕ) → ((x : ℕ) → has x xs ≡ true → has x (rows doc) ≡ true) → list_any (λ z. has z xs && q z) (rows doc) ≡ list_any q xs
  members_any q [] h = lists.any_none (rows doc)
  members_any q (x ∷ xs) h =
      lists.any_same _ _ (λ z. lists.and_or (eqb x z) (has z xs) (q z)) (rows doc)
      ∙ lists.any_or (λ z. eqb x z && q z) (λ z. has z xs && q z) (rows doc)
      ∙ ap (λ b. b || list_any (λ z. has z xs && q z) (rows doc)) (lists.any_same _ _ (λ z. ap (λ b. b && q z) (flip x z)) (rows doc) ∙ self_any doc q x (h x (lists.in_first x xs)))
      ∙ ap (λ b. q x || b) (members_any q xs (λ y i. h y (lists.in_rest x y xs i)))

  -- the row that decides, if there is one
  abbrev nearest : Dialect → ℕ → List ℕ
  nearest d x = last_of (filter (gives_language doc d x) (rows doc))

  nearest_row : (d : Dialect) (x z : ℕ) → has z (nearest d x) ≡ true → has z (rows doc) ≡ true
  nearest_row d x z h = (and_parts (gives_language doc d x z) _ (sym (lists.in_filter (gives_language doc d x) (rows doc) z) ∙ last_in (filter (gives_language doc d x) (rows doc)) z h)).1

  nearest_gives : (d : Dialect) (x z : ℕ) → has z (nearest d x) ≡ true → gives_language doc d x z ≡ true
  nearest_gives d x z h = (and_parts (gives_language doc d x z) _ (sym (lists.in_filter (gives_language doc d x) (rows doc) z) ∙ last_in (filter (gives_language doc d x) (rows doc)) z h)).0

  abbrev says : Dialect → List ℕ → ℕ → Bool
  says d v z = has_value doc z (lang_name d) (λ t. lang_test t v)

  lang_nearest : (d : Dialect) (v : List ℕ) (x : ℕ) → list_any (says d v) (nearest d x) ≡ lang_holds doc d v x
  lang_nearest d v x =
      sym (members_any (says d v) (nearest d x) (nearest_row d x))
      ∙ lists.any_among _ _ (rows doc) (λ z among. ap (λ b. b && says d v z) (has_last doc (gives_language doc d x) z among))

  -- ---- XPath's own test

  language_first : (v : List ℕ) (xs : List ℕ) → language_at doc v xs ≡ list_any (λ y. language_of doc v (attributes_named doc (codes "xml:lang") y)) (first_of xs)
  language_first v [] = refl
  language_first v (y ∷ ys) = sym (lists.or_false (language_of doc v (attributes_named doc (codes "xml:lang") y)))

  language_list : (v : List ℕ) (xs : List ℕ) → ((y : ℕ) → has y xs ≡ true → is_attribute doc y ≡ true) → language_of doc v xs ≡ (is_any xs && lang_test (text_of_rows doc xs) v)
  language_list v [] h = refl
  language_list v (z ∷ zs) h = language_same doc v (row doc z).text ∙ ap (λ t. lang_test t v) (sym (attribute_value doc z (h z (lists.in_first z zs))))

  language_value : IsDocument doc → (v n : List ℕ) (y : ℕ) → language_of doc v (attributes_named doc n y) ≡ has_value doc y n (λ t. lang_test t v)
  language_value is v n y = language_list v (found doc y n) (λ z i. (and_parts (is_attribute doc z) _ (found_is doc y n z i)).0) ∙ sym (value_is doc is y n (λ t. lang_test t v))

  there : (n : List ℕ) (x : ℕ) → is_any (found doc x n) ≡ has_attribute doc x n
  there n x = any_kept (is_attribute_of doc x n) (rows doc) ∙ lists.any_same _ _ (λ r. sym (lists.and_true (is_attribute_of doc x n r))) (rows doc)

  lang_same : IsDocument doc → (v : List ℕ) (x : ℕ) → lang doc v x ≡ lang_holds doc Generic v x
  lang_same is v x =
      ap (λ xs. language_at doc v (reverse xs)) (lists.filter_same _ _ (λ y. ap (λ b. ((eqb y x) || below doc y x) && b) (there (codes "xml:lang") y)) (rows doc))
      ∙ language_first v (reverse (filter (gives_language doc Generic x) (rows doc)))
      ∙ ap (λ xs. list_any (λ y. language_of doc v (attributes_named doc (codes "xml:lang") y)) xs) (first_reversed (filter (gives_language doc Generic x) (rows doc)))
      ∙ lists.any_same _ _ (λ y. language_value is v (codes "xml:lang") y) (nearest Generic x)
      ∙ lang_nearest Generic v x

  pub lang_generic_is : IsDocument doc → (v : List ℕ) (x : ℕ) → Is doc (e.Call f.Lang (literal v ∷ [])) x (lang_holds doc Generic v x)
  lang_generic_is is v x at size =
      is_truth doc (e.Call f.Lang (literal v ∷ [])) x (lang doc v x) (at_call_one doc f.Lang (literal v) x (Str v) (at_text doc v x)) at size ∙ lang_same is v x

  -- ---- by the template of the HTML dialect

  filter_last_at : (p : ℕ → Bool) (y : ℕ) (ys rest : List ℕ) (b : Bool) → filter p (ys ++ rest) ≡ filter p ys ++ filter p rest
      → cond b (y ∷ filter p (ys ++ rest)) (filter p (ys ++ rest)) ≡ cond b (y ∷ filter p ys) (filter p ys) ++ filter p rest
  filter_last_at p y ys rest true h = ap (λ r. y ∷ r) h
  filter_last_at p y ys rest false h = h

  filter_last : (p : ℕ → Bool) (ys rest : List ℕ) → filter p (ys ++ rest) ≡ filter p ys ++ filter p rest
  filter_last p [] rest = refl
  filter_last p (y ∷ ys) rest = filter_last_at p y ys rest (p y) (filter_last p ys rest)

  filter_reversed : (p : ℕ → Bool) (xs : List ℕ) → filter p (reverse xs) ≡ reverse (filter p xs)
  filter_reversed p [] = refl
  filter_reversed p (x ∷ xs) =
      ap (filter p) (reverse-append (x ∷ []) xs) ∙ filter_last p (reverse xs) (x ∷ []) ∙ ap (λ r. r ++ filter p (x ∷ [])) (filter_reversed p xs) ∙ at (p x)
    where
      at : (b : Bool) → reverse (filter p xs) ++ cond b (x ∷ []) [] ≡ reverse (cond b (x ∷ filter p xs) (filter p xs))
      at true = sym (reverse-append (x ∷ []) (filter p xs))
      at false = append-nil (reverse (filter p xs))

  -- only elements have attributes
  owner : IsDocument doc → (n : List ℕ) (y : ℕ) → has_attribute doc y n ≡ true → is_element doc y ≡ true
  owner is n y h =
      let w : (r : ℕ) × (has r (rows doc) ≡ true) × ((is_attribute_of doc y n r && true) ≡ true) = found_in (λ r. is_attribute_of doc y n r && true) (rows doc) h in
      let o : IsOf doc y n w.0 = is_of doc y n w.0 (and_parts (is_attribute_of doc y n w.0) _ w.2).0 in
      ap (λ v. is_element doc v) (sym o.parent) ∙ ap is_element_kind ((is.rest w.0 o.some o.within).attribute o.kind).1

  abbrev html_name : List ℕ
  html_name = codes "lang"

  abbrev upward : ℕ → ℕ → Bool
  upward x y = on_axis doc axis.AncestorOrSelf x y && is_element doc y

  gives_same : IsDocument doc → (x y : ℕ) → (upward x y && has_attribute doc y html_name) ≡ gives_language doc Html x y
  gives_same is x y = at (has_attribute doc y html_name) refl
    where
      at : (b : Bool) → has_attribute doc y html_name ≡ b → (upward x y && has_attribute doc y html_name) ≡ gives_language doc Html x y
      at true h = ap (λ b. (on_axis doc axis.AncestorOrSelf x y && b) && has_attribute doc y html_name) (owner is html_name y h) ∙ ap (λ b. b && has_attribute doc y html_name) (lists.and_true _)
      at false h = ap (λ b. upward x y && b) h ∙ lists.and_false _ ∙ sym (lists.and_false _) ∙ ap (λ b. (eqb y x || below doc y x) && b) (sym h)

  -- ---- the attribute begins with the language

  dashes : (s t : List ℕ) → starts_with (s ++ 45 ∷ []) (t ++ 45 ∷ []) ≡ (bytes_eq s t || starts_with s (t ++ 45 ∷ []))
  dashes [] [] = refl
  dashes [] (b ∷ t) = ap (λ v. eqb 45 b && v) (none t) ∙ lists.and_false (eqb 45 b)
    where
      none : (t : List ℕ) → starts_with [] (t ++ 45 ∷ []) ≡ false
      none [] = refl
      none (b ∷ t) = refl
  dashes (a ∷ s) [] = refl
  dashes (a ∷ s) (b ∷ t) = ap (λ v. eqb a b && v) (dashes s t) ∙ lists.and_or_left (eqb a b) (bytes_eq s t) (starts_with s (t ++ 45 ∷ []))

  begins_is : (v : List ℕ) (y : ℕ) → Value_at doc (lang_begins v) y
      (Truth (lang_test (text_of_rows doc (found doc y html_name)) v))
  begins_is v y at size =
      at_call_two doc f.StartsWith
      (e.Call f.Concat (e.Call f.Translate (plain_attribute html_name ∷ literal (codes "ABCDEFGHIJKLMNOPQRSTUVWXYZ") ∷ literal (codes "abcdefghijklmnopqrstuvwxyz") ∷ []) ∷ literal (codes "-") ∷ []))
      (literal (map to_ascii_lowercase v ++ codes "-")) y
      (Str (translated (text_of_rows doc (found doc y html_name)) (codes "ABCDEFGHIJKLMNOPQRSTUVWXYZ") (codes "abcdefghijklmnopqrstuvwxyz") ++ codes "-")) (Str (map to_ascii_lowercase v ++ codes "-"))
      (at_call_two doc f.Concat (e.Call f.Translate (plain_attribute html_name ∷ literal (codes "ABCDEFGHIJKLMNOPQRSTUVWXYZ") ∷ literal (codes "abcdefghijklmnopqrstuvwxyz") ∷ [])) (literal (codes "-")) y
      (Str (translated (text_of_rows doc (found doc y html_name)) (codes "ABCDEFGHIJKLMNOPQRSTUVWXYZ") (codes "abcdefghijklmnopqrstuvwxyz"))) (Str (codes "-"))
      (at_call_three doc f.Translate (plain_attribute html_name) (literal (codes "ABCDEFGHIJKLMNOPQRSTUVWXYZ")) (literal (codes "abcdefghijklmnopqrstuvwxyz")) y
      (Nodes (found doc y html_name)) (Str (codes "ABCDEFGHIJKLMNOPQRSTUVWXYZ")) (Str (codes "abcdefghijklmnopqrstuvwxyz"))
      (at_plain_attribute doc html_name y) (at_text doc (codes "ABCDEFGHIJKLMNOPQRSTUVWXYZ") y) (at_text doc (codes "abcdefghijklmnopqrstuvwxyz") y))
      (at_text doc (codes "-") y))
      (at_text doc (map to_ascii_lowercase v ++ codes "-") y) at size
      ∙ ap Truth (ap (λ s. starts_with (s ++ codes "-") (map to_ascii_lowercase v ++ codes "-")) (translated_lower (text_of_rows doc (found doc y html_name)))
      ∙ dashes (map to_ascii_lowercase (text_of_rows doc (found doc y html_name))) (map to_ascii_lowercase v))

  -- where the attribute is there, its value decides
  says_is : IsDocument doc → (v : List ℕ) (y : ℕ) → has_attribute doc y html_name ≡ true → Is doc (lang_begins v) y (says Html v y)
  says_is is v y h at size =
      is_truth doc (lang_begins v) y _ (begins_is v y) at size
      ∙ ap (λ b. b && lang_test (text_of_rows doc (found doc y html_name)) v) (sym (there html_name y ∙ h)) ∙ sym (value_is doc is y html_name (λ t. lang_test t v))

  keep_there : Keep doc (λ y. true) (plain_attribute html_name ∷ []) (λ y. has_attribute doc y html_name)
  keep_there = keep_one doc (λ y. true) (plain_attribute html_name) (λ y. has_attribute doc y html_name) (λ y i at size.
      is_nodes doc (plain_attribute html_name) y (found doc y html_name) (at_plain_attribute doc html_name y) at size ∙ there html_name y)

  keep_says : IsDocument doc → (v : List ℕ) → Keep doc (λ y. has_attribute doc y html_name) (lang_begins v ∷ []) (says Html v)
  keep_says is v = keep_one doc (λ y. has_attribute doc y html_name) (lang_begins v) (says Html v) (λ y i. says_is is v y i)

  -- the step gives the row that decides, where it says the language
  html_walk : IsDocument doc → (v : List ℕ) (x : ℕ)
      → walk_of doc (step axis.AncestorOrSelf node.AnyName (plain_attribute html_name ∷ number 1 ∷ lang_begins v ∷ [])) x ≡ filter (says Html v) (nearest Html x)
  html_walk is v x =
      at_made doc axis.AncestorOrSelf node.AnyName (plain_attribute html_name ∷ number 1 ∷ lang_begins v ∷ []) x
      ∙ ap (kept (map (denote doc) (number 1 ∷ lang_begins v ∷ []))) (keep_there (reverse (filter (upward x) (rows doc))) (λ z i. refl) ∙ turned)
      ∙ ap (kept (map (denote doc) (lang_begins v ∷ []))) (one_kept doc (length (reverse (filter (gives_language doc Html x) (rows doc)))) (reverse (filter (gives_language doc Html x) (rows doc)))
      ∙ first_reversed (filter (gives_language doc Html x) (rows doc)))
      ∙ keep_says is v (nearest Html x) (λ z i. (and_parts ((eqb z x) || below doc z x) _ (nearest_gives Html x z i)).1)
    where
      turned : filter (λ y. has_attribute doc y html_name) (reverse (filter (upward x) (rows doc))) ≡ reverse (filter (gives_language doc Html x) (rows doc))
      turned = filter_reversed (λ y. has_attribute doc y html_name) (filter (upward x) (rows doc))
          ∙ ap reverse (filter_twice (upward x) (λ y. has_attribute doc y html_name) (rows doc) ∙ lists.filter_same _ _ (λ y. gives_same is x y) (rows doc))

  at_html : IsDocument doc → (v : List ℕ) (x : ℕ) → Value_at doc (path axis.AncestorOrSelf node.AnyName (plain_attribute html_name ∷ number 1 ∷ lang_begins v ∷ [])) x
      (Nodes (filter (λ y. has y (filter (says Html v) (nearest Html x)) || false) (rows doc)))
  unfolding rows_in
  at_html is v x at size =
      eq.at_path doc Here (step axis.AncestorOrSelf node.AnyName (plain_attribute html_name ∷ number 1 ∷ lang_begins v ∷ []) ∷ []) (record { row = x; position = at; size = size })
      ∙ ap (λ xs. Nodes (walked doc xs (walk_of doc (step axis.AncestorOrSelf node.AnyName (plain_attribute html_name ∷ number 1 ∷ lang_begins v ∷ [])) ∷ []))) (eq.at_here doc (record { row = x; position = at; size = size }))
      ∙ ap (λ w. Nodes (filter (λ y. has y w || false) (rows doc))) (html_walk is v x)

  pub lang_html_is : IsDocument doc → (v : List ℕ) (x : ℕ) → Is doc (path axis.AncestorOrSelf node.AnyName (plain_attribute html_name ∷ number 1 ∷ lang_begins v ∷ [])) x (lang_holds doc Html v x)
  lang_html_is is v x at size =
      is_nodes doc (path axis.AncestorOrSelf node.AnyName (plain_attribute html_name ∷ number 1 ∷ lang_begins v ∷ [])) x _ (at_html is v x) at size
      ∙ any_kept (λ y. has y (filter (says Html v) (nearest Html x)) || false) (rows doc)
      ∙ lists.any_same _ _ (λ y. lists.or_false _ ∙ lists.in_filter (says Html v) (nearest Html x) y ∙ swap (says Html v y) (has y (nearest Html x))) (rows doc)
      ∙ members_any (says Html v) (nearest Html x) (nearest_row Html x)
      ∙ lang_nearest Html v x

  pub lang_is : IsDocument doc → (d : Dialect) (v : List ℕ) (x : ℕ) → Is doc (lang_predicate d v) x (lang_holds doc d v x)
  lang_is is Generic v x = lang_generic_is is v x
  lang_is is Html v x = lang_html_is is v x
