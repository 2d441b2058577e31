-- What single predicates and negations keep.
use Rattle.std.proofs.Common.{◌≡◌, refl, ℕ, Bool, true, false, ◌&&◌, not, eqb, List, [], ◌∷◌, ap, sym, ◌∙◌, subst, filter, Option}
use Rattle.std.proofs.lemmas.Bool.{and_parts, eqb-true}
use Rattle.doc_model.specs.declared.Axis.TheVariants as axis
use Rattle.doc_model.specs.declared.NodeTest.TheVariants as node
use Rattle.doc_model.specs.Document.{Document, rows, is_element}
use Rattle.css_selectors.specs.declared.selector.Dialect.{Dialect}
use Rattle.css_meaning.specs.Names.{has_name}
use Rattle.css_meaning.proofs.ListTests as lists
use Rattle.xpath_values.specs.declared.value.Value.TheVariants.{Nodes}
use Rattle.xpath_parser.specs.declared.expression.Expr.{Expr}
use Rattle.xpath_parser.specs.Conversions.{is_any}
use Rattle.css_printed.specs.inner.Predicates.{path, elements, not_one}
use Rattle.css_printed.proofs.PathsKept.{Is, Keep, keep_one}
use Rattle.css_printed.proofs.MeansValues.{Value_at, is_truth, any_kept, at_step, at_not}
use Rattle.css_printed.proofs.MeansNames.{at_elements}
use Rattle.css_printed.proofs.MeansParts.{is_named_element, element_row, self_any, self_named_is}

module _ (doc : Document) (d : Dialect) (el : Option (List ℕ)) where
  -- one predicate, whose answer at each such element is the test's
  pub one_keeps : (e : Expr) (p : ℕ → Bool) → ((x : ℕ) → is_element doc x ≡ true → Is doc e x (p x)) → Keep doc (is_named_element doc d el) (e ∷ []) p
  one_keeps e p is = keep_one doc (is_named_element doc d el) e p (λ x h. is x (and_parts (is_element doc x) _ h).0)

  pub element_test : (n : Option (List ℕ)) → Keep doc (is_named_element doc d el) (elements d axis.OwnSelf n ∷ []) (has_name doc d n)
  element_test n = one_keeps (elements d axis.OwnSelf n) (has_name doc d n) (λ x is. self_named_is doc d n x is)

  -- ---- negations

  turned : (p e s : Bool) → (p && (e && s)) ≡ (e && (p && s))
  turned true true s = refl
  turned true false s = refl
  turned false true s = refl
  turned false false s = refl

  -- what the predicates keep of the row itself
  itself : (es : List Expr) (p : ℕ → Bool) (x : ℕ) → is_named_element doc d el x ≡ true → Keep doc (is_named_element doc d el) es p
      → Value_at doc (path axis.OwnSelf node.AnyName es) x (Nodes (filter (λ y. p y && (eqb y x && is_element doc y)) (rows doc)))
  itself es p x is keep = at_step doc (is_named_element doc d el) axis.OwnSelf node.AnyName es p x (λ z own any. subst (λ v. is_named_element doc d el v ≡ true) (sym (eqb-true z x own)) is) keep

  itself_any : (p : ℕ → Bool) (x : ℕ) → is_element doc x ≡ true → is_any (filter (λ y. p y && (eqb y x && is_element doc y)) (rows doc)) ≡ p x
  itself_any p x is =
      any_kept (λ y. p y && (eqb y x && is_element doc y)) (rows doc) ∙ lists.any_same _ _ (λ y. turned (p y) (eqb y x) (is_element doc y)) (rows doc)
      ∙ self_any doc (λ y. p y && is_element doc y) x (element_row doc x is) ∙ ap (λ b. p x && b) is ∙ lists.and_true (p x)

  pub not_keeps : (es : List Expr) (p : ℕ → Bool) → Keep doc (is_named_element doc d el) es p → Keep doc (is_named_element doc d el) (not_one (path axis.OwnSelf node.AnyName es) ∷ []) (λ y. not (p y))
  not_keeps es p keep = keep_one doc (is_named_element doc d el) (not_one (path axis.OwnSelf node.AnyName es)) (λ y. not (p y)) (λ x is at size.
      is_truth doc (not_one (path axis.OwnSelf node.AnyName es)) x _ (at_not doc (path axis.OwnSelf node.AnyName es) x _ (itself es p x is keep)) at size
      ∙ ap not (itself_any p x (and_parts (is_element doc x) _ is).0))

  pub not_named : (n : Option (List ℕ)) → Keep doc (is_named_element doc d el) (not_one (elements d axis.OwnSelf n) ∷ []) (λ y. not (has_name doc d n y))
  not_named n = one_keeps (not_one (elements d axis.OwnSelf n)) (λ y. not (has_name doc d n y)) (λ x is at size.
      is_truth doc (not_one (elements d axis.OwnSelf n)) x _ (at_not doc (elements d axis.OwnSelf n) x _ (at_elements doc d axis.OwnSelf n x)) at size
      ∙ ap not (any_kept (λ y. eqb y x && (is_element doc y && has_name doc d n y)) (rows doc) ∙ self_any doc (λ y. is_element doc y && has_name doc d n y) x (element_row doc x is) ∙ ap (λ b. b && has_name doc d n x) is))
