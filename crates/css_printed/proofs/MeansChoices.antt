-- What the predicates of lists of simples and of choices tell.
use Rattle.std.proofs.Common.{◌≡◌, refl, ℕ, suc, Bool, true, false, ◌&&◌, ◌||◌, not, eqb, List, [], ◌∷◌, ◌++◌, ap, sym, ◌∙◌, subst, map, Option, Some, None}
use Rattle.std.specs.List.{flat_map, list_any, AllByRecursion}
use Rattle.std.proofs.lemmas.Bool.{and_parts, and_from, eqb-true}
use Rattle.doc_model.specs.declared.Axis.TheVariants as axis
use Rattle.doc_model.specs.Document.{Document, rows, is_element}
use Rattle.doc_model.specs.Axes.{passes}
use Rattle.css_selectors.specs.declared.selector.Compound.{Compound, out-Compound}
use Rattle.css_selectors.specs.declared.selector.Dialect.{Dialect}
use Rattle.css_selectors.specs.declared.selector.Simple.{Simple}
use Rattle.css_selectors.specs.WellMade.{innermost}
use Rattle.css_meaning.specs.Holding.{compound_holds, simple_holds}
use Rattle.css_meaning.specs.Names.{has_name}
use Rattle.css_meaning.proofs.HoldsAt.{at_compound}
use Rattle.css_meaning.proofs.ListTests as lists
use Rattle.xpath_values.specs.declared.value.Value.{Value}
use Rattle.xpath_values.specs.declared.value.Value.TheVariants.{Nodes, Bool as Truth}
use Rattle.xpath_parser.specs.declared.expression.Expr.{Expr}
use Rattle.xpath_parser.specs.declared.expression.Expr.TheVariants as e
use Rattle.xpath_parser.specs.Conversions.{is_any, truth_of}
use Rattle.xpath_parser.specs.Denote.{keeps}
use Rattle.css_printed.specs.inner.Predicates.{path, node_test, name_brackets, not_one}
use Rattle.css_printed.specs.inner.TestPredicates.{choice, compound_expression, simple_predicates}
use Rattle.css_printed.proofs.MeansNames.{element_kept, keep_element, passes_element}
use Rattle.css_printed.proofs.MeansParts.{is_named_element, all_hold, element_row, self_any}
use Rattle.css_printed.proofs.MeansValues.{Value_at, Truths_at, one_of, at_or, at_not, at_step, any_kept, is_truth}
use Rattle.css_printed.proofs.PathsKept.{Keep, keep_none, keep_one, keep_then, keep_both}
use Rattle.css_printed.proofs.PrintedAt.{asked_at_compound}

module _ (doc : Document) where
  -- the value at y is no number, and its truth is b
  pub record Tells (a : Expr) (y : ℕ) (b : Bool) : Type 0 where
    pub value : Value
    pub at : Value_at doc a y value
    pub truth : truth_of value ≡ b
    pub keeps_it : (i : ℕ) → keeps (suc i) value ≡ b

  pub tells_nodes : (a : Expr) (y : ℕ) (ys : List ℕ) (b : Bool) → Value_at doc a y (Nodes ys) → is_any ys ≡ b → Tells a y b
  tells_nodes a y ys b h same = record { value = Nodes ys; at = h; truth = same; keeps_it = λ i. same }

  tells_truth : (a : Expr) (y : ℕ) (b : Bool) → Value_at doc a y (Truth b) → Tells a y b
  tells_truth a y b h = record { value = Truth b; at = h; truth = refl; keeps_it = λ i. refl }

  pub tells_same : (a a' : Expr) (y : ℕ) (b b' : Bool) → a ≡ a' → b ≡ b' → Tells a' y b' → Tells a y b
  tells_same a a' y b b' e f t = subst (λ v. Tells v y b) (sym e) (subst (λ v. Tells a' y v) (sym f) t)

  pub keep_tells : (kind : ℕ → Bool) (a : Expr) (p : ℕ → Bool) → ((y : ℕ) → kind y ≡ true → Tells a y (p y)) → Keep doc kind (a ∷ []) p
  keep_tells kind a p t = keep_one doc kind a p (λ y h at size. ap (keeps (suc at)) ((t y h).at (suc at) size) ∙ (t y h).keeps_it at)

  pub keep_not : (kind : ℕ → Bool) (a : Expr) (p : ℕ → Bool) → ((y : ℕ) → kind y ≡ true → Tells a y (p y)) → Keep doc kind (not_one a ∷ []) (λ y. not (p y))
  keep_not kind a p t =
      keep_one doc kind (not_one a) (λ y. not (p y)) (λ y h. is_truth doc (not_one a) y (not (p y)) (λ at size. at_not doc a y (t y h).value (t y h).at at size ∙ ap (λ b. Truth (not b)) (t y h).truth))

  -- ---- one alone, or any of several

  truths : {X : Type 0} (f : X → Expr) (g : X → ℕ → Bool) (ys : List X) (y : ℕ) → AllByRecursion (λ c. Tells (f c) y (g c y)) ys → Truths_at doc (map f ys) y (map (λ c. g c y) ys)
  truths f g [] y h = tt
  truths f g (c ∷ cs) y h = ((λ at size. ap truth_of (h.0.at at size) ∙ h.0.truth), truths f g cs y h.1)

  one_any : {X : Type 0} (g : X → ℕ → Bool) (ys : List X) (y : ℕ) → one_of doc (map (λ c. g c y) ys) ≡ list_any (λ h. h y) (map g ys)
  one_any g [] y = refl
  one_any g (c ∷ cs) y = ap (λ b. g c y || b) (one_any g cs y)

  pub tells_choice : {X : Type 0} (f : X → Expr) (g : X → ℕ → Bool) (ys : List X) (y : ℕ) → AllByRecursion (λ c. Tells (f c) y (g c y)) ys → Tells (choice (map f ys)) y (list_any (λ h. h y) (map g ys))
  tells_choice f g [] y h = tells_truth (e.Or []) y false (at_or doc [] y [] tt)
  tells_choice f g (c ∷ []) y h = tells_same (f c) (f c) y (g c y || false) (g c y) refl (lists.or_false (g c y)) h.0
  tells_choice f g (c ∷ (b ∷ cs)) y h =
      tells_same (e.Or (map f (c ∷ (b ∷ cs)))) (e.Or (map f (c ∷ (b ∷ cs)))) y _ (one_of doc (map (λ v. g v y) (c ∷ (b ∷ cs)))) refl (sym (one_any g (c ∷ (b ∷ cs)) y))
      (tells_truth (e.Or (map f (c ∷ (b ∷ cs)))) y (one_of doc (map (λ v. g v y) (c ∷ (b ∷ cs)))) (at_or doc (map f (c ∷ (b ∷ cs))) y (map (λ v. g v y) (c ∷ (b ∷ cs))) (truths f g (c ∷ (b ∷ cs)) y h)))

module _ (doc : Document) (d : Dialect) where
  -- the predicates of the simple keep, of the elements of the name around, those at which it holds
  abbrev pub SimpleKeeps : Option (List ℕ) → Simple → Type 0
  SimpleKeeps around s = Keep doc (is_named_element doc d around) (simple_predicates d s around) (simple_holds doc d s)

  pub simples_keep : (around : Option (List ℕ)) (ss : List Simple) → AllByRecursion (SimpleKeeps around) ss
      → Keep doc (is_named_element doc d around) (flat_map (λ s. simple_predicates d s around) ss) (all_hold doc d ss)
  simples_keep around [] h = keep_none doc (is_named_element doc d around)
  simples_keep around (s ∷ ss) h =
      keep_both doc (is_named_element doc d around) (simple_predicates d s around) (flat_map (λ v. simple_predicates d v around) ss) (simple_holds doc d s) (all_hold doc d ss) h.0 (simples_keep around ss h.1)

  -- ---- a compound of a choice

  -- an element of the name around that has the compound's own name too has the innermost of them
  narrowed : (around element : Option (List ℕ)) (y : ℕ) → is_named_element doc d around y ≡ true → is_named_element doc d element y ≡ true → is_named_element doc d (innermost around element) y ≡ true
  narrowed around None y h k = h
  narrowed around (Some n) y h k = k

  own : (k p o f e n : Bool) → (f && k) ≡ (e && n) → ((k && p) && (o && f)) ≡ (o && (e && (n && p)))
  own k p true true e n h = ap (λ b. (b && p) && true) h ∙ lists.and_true ((e && n) && p) ∙ lists.and_assoc e n p
  own k p true false e n h = lists.and_false (k && p) ∙ ap (λ b. b && p) h ∙ lists.and_assoc e n p
  own k p false f e n h = lists.and_false (k && p)

  pub compound_tells : (around : Option (List ℕ)) (c : Compound) → AllByRecursion (SimpleKeeps (innermost around (out-Compound c).element)) (out-Compound c).simples
      → (y : ℕ) → is_named_element doc d around y ≡ true → Tells doc (compound_expression d c around) y (compound_holds doc d c y)
  compound_tells around c keep y named =
      let element : Option (List ℕ) = (out-Compound c).element in
      let inner : Option (List ℕ) = innermost around element in
      let es : List Expr = flat_map (λ v. simple_predicates d v inner) (out-Compound c).simples in
      let p : ℕ → Bool = all_hold doc d (out-Compound c).simples in
      let kind : ℕ → Bool = λ z. eqb z y && passes doc axis.OwnSelf (node_test d element) z in
      let is : is_element doc y ≡ true = (and_parts (is_element doc y) _ named).0 in
      let all : Keep doc kind (name_brackets d element ++ es) (λ z. element_kept doc d element z && p z) =
      keep_then doc kind (is_named_element doc d inner) (name_brackets d element) es (element_kept doc d element) p (keep_element doc kind d element)
      (simples_keep inner (out-Compound c).simples keep)
      (λ z h k. narrowed around element z (subst (λ v. is_named_element doc d around v ≡ true) (sym (eqb-true z y (and_parts (eqb z y) _ h).0)) named)
      (sym (passes_element doc axis.OwnSelf d element z) ∙ and_from _ _ (and_parts (eqb z y) _ h).1 k)) in
      tells_same doc (compound_expression d c around) (path axis.OwnSelf (node_test d element) (name_brackets d element ++ es)) y (compound_holds doc d c y) (is_element doc y && (has_name doc d element y && p y))
      (asked_at_compound d c around) (at_compound doc d c y)
      (tells_nodes doc (path axis.OwnSelf (node_test d element) (name_brackets d element ++ es)) y _ (is_element doc y && (has_name doc d element y && p y))
      (at_step doc kind axis.OwnSelf (node_test d element) (name_brackets d element ++ es) (λ z. element_kept doc d element z && p z) y (λ z o k. and_from _ _ o k) all)
      (any_kept _ (rows doc)
      ∙ lists.any_same _ _ (λ z. own (element_kept doc d element z) (p z) (eqb z y) (passes doc axis.OwnSelf (node_test d element) z) (is_element doc z) (has_name doc d element z) (passes_element doc axis.OwnSelf d element z)) (rows doc)
      ∙ self_any doc (λ z. is_element doc z && (has_name doc d element z && p z)) y (element_row doc y is)))
