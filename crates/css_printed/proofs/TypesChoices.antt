-- The types of the predicates of all tests, at every depth.
use Rattle.std.proofs.Common.{◌≡◌, refl, sym, subst, ◌∙◌, ap, ℕ, zero, suc, Bool, true, false, ◌&&◌, cond, List, [], ◌∷◌, ◌++◌, map, append-nil, Option, Some, None, codes}
use Rattle.std.specs.Prelude.{pos, All}
use Rattle.std.specs.List.{flat_map, list_all, AllByRecursion}
use Rattle.std.proofs.lemmas.List.Elements.{recursion_from_All}
use Rattle.doc_model.specs.declared.Axis.TheVariants as axis
use Rattle.doc_model.specs.declared.NodeTest.TheVariants as node
use Rattle.css_selectors.specs.declared.selector.Compound.{Compound, out-Compound}
use Rattle.css_selectors.specs.declared.selector.Dialect.{Dialect}
use Rattle.css_selectors.specs.declared.selector.Link.{Link}
use Rattle.css_selectors.specs.declared.selector.Link.TheVariants as link
use Rattle.css_selectors.specs.declared.selector.Op.TheVariants as op
use Rattle.css_selectors.specs.declared.selector.Part.{Part, out-Part}
use Rattle.css_selectors.specs.declared.selector.Relative.{Relative, out-Relative}
use Rattle.css_selectors.specs.declared.selector.Simple.{Simple}
use Rattle.css_selectors.specs.declared.selector.Test.{Test, out-Test, roll-Test}
use Rattle.css_selectors.specs.declared.selector.Test.TheOpen as open_
use Rattle.css_selectors.specs.declared.selector.Test.TheViews as views
use Rattle.css_selectors.specs.WellMade.{FitsTest, FitsPart, FitsRelative, FitsSimple, Nowhere, innermost, IsPart}
use Rattle.xpath_values.specs.declared.value.Shape.{Shape}
use Rattle.xpath_values.specs.declared.value.Shape.TheVariants as shape
use Rattle.xpath_parser.specs.declared.expression.Expr.{Expr}
use Rattle.xpath_parser.specs.declared.expression.Func.TheVariants as f
use Rattle.xpath_parser.specs.declared.expression.Step.{Step}
use Rattle.css_printed.specs.inner.LinkPredicates.{axis_of, link_test, link_brackets, next_brackets}
use Rattle.css_printed.specs.inner.Predicates as x
use Rattle.css_printed.specs.inner.Predicates.{node_test}
use Rattle.css_printed.specs.inner.TestPredicates as q
use Rattle.css_printed.specs.inner.TestPredicates.{Asked, test_asked, compound_expression, step_of, relative_expression, simple_predicates}
use Rattle.css_printed.proofs.PrintedAt.{Layer, asked_layer, asked_at, asked_at_simple, asked_at_compound, asked_at_part, asked_at_relative, asked_at_any}
use Rattle.css_printed.proofs.Typed.{step_right, path_typing}
use Rattle.css_printed.proofs.TypesPieces.{Typed, AllRight, number_typed, call_two, no_expression, front, one, join, or_typed, step_typed, path_typed}
use Rattle.css_printed.proofs.TypesTests.{text_typed, name_right, elements_typed, attribute_typed, plain_attribute_typed, equals_typed, op_right, nth_right, not_typed, pseudo_right, lang_right}

-- the expression has some type, and all in it is typed right
pub record IsRight (y : Expr) : Type 0 where
  pub shape : Shape
  pub typed : Typed y shape

right : {y : Expr} {s : Shape} → Typed y s → IsRight y
right {s = s} h = record { shape = s; typed = h }

all_expressions : {X : Type 0} (means : X → Expr) (cs : List X) → AllByRecursion (λ v. IsRight (means v)) cs → AllRight (map means cs)
all_expressions means [] k = no_expression
all_expressions means (v ∷ vs) k = front k.0.typed (all_expressions means vs k.1)

choice_right : {X : Type 0} (means : X → Expr) (cs : List X) → AllByRecursion (λ c. IsRight (means c)) cs → IsRight (q.choice (map means cs))
choice_right means [] h = right (or_typed no_expression)
choice_right means (c ∷ []) h = h.0
choice_right means (c ∷ (b ∷ bs)) h = right (or_typed (all_expressions means (c ∷ (b ∷ bs)) h))

-- what is asked is typed right, plainly and in a negation
pub record AskedRight (a : Asked) : Type 0 where
  pub plainly : AllRight a.brackets
  pub inside : IsRight a.inside

of_itself : {ps : List Expr} → AllRight ps → AskedRight (q.by_itself ps)
of_itself h = record { plainly = h; inside = right (path_typed axis.OwnSelf node.AnyName h) }

of_one : {y : Expr} → IsRight y → AskedRight (q.alone y)
of_one h = record { plainly = one h.typed; inside = h }

by_sign : (negated : Bool) {y : Expr} {ps : List Expr} → AllRight (y ∷ []) → AllRight ps → AllRight (cond negated (y ∷ []) ps)
by_sign true h k = h
by_sign false h k = k

module _ (d : Dialect) where
  abbrev SimpleRight : Option (List ℕ) → Simple → Type 0
  SimpleRight around s = AllRight (simple_predicates d s around)

  simples_right : (around : Option (List ℕ)) (ss : List Simple) → AllByRecursion (SimpleRight around) ss → AllRight (flat_map (λ s. simple_predicates d s around) ss)
  simples_right around [] h = no_expression
  simples_right around (s ∷ ss) h = join h.0 (simples_right around ss h.1)

  all_of : (Fits : Simple → Type 0) (around : Option (List ℕ)) → ((s : Simple) → Fits s → SimpleRight around s) → (ss : List Simple) → AllByRecursion Fits ss → AllByRecursion (SimpleRight around) ss
  all_of Fits around ih [] k = tt
  all_of Fits around ih (s ∷ ss) k = (ih s k.0, all_of Fits around ih ss k.1)

  compound_right : (around : Option (List ℕ)) (c : Compound) → AllByRecursion (SimpleRight (innermost around (out-Compound c).element)) (out-Compound c).simples → IsRight (compound_expression d c around)
  compound_right around c h =
      subst IsRight (sym (asked_at_compound d c around))
      (right (path_typed axis.OwnSelf (node_test d (out-Compound c).element) (join (name_right d (out-Compound c).element) (simples_right (innermost around (out-Compound c).element) (out-Compound c).simples h))))

  compounds_right : (Fits : Bool → Option (List ℕ) → Simple → Type 0) (inside : Bool) (around : Option (List ℕ)) → ((a : Option (List ℕ)) (s : Simple) → Fits inside a s → SimpleRight a s)
      → (list : List Compound) → AllByRecursion (λ c. All (Fits inside (innermost around (out-Compound c).element)) (out-Compound c).simples) list
      → AllByRecursion (λ c. IsRight (compound_expression d c around)) list
  compounds_right Fits inside around ih [] h = tt
  compounds_right Fits inside around ih (c ∷ cs) h =
      let inner : Option (List ℕ) = innermost around (out-Compound c).element in
      (compound_right around c (all_of (Fits inside inner) inner (ih inner) (out-Compound c).simples (recursion_from_All (Fits inside inner) (out-Compound c).simples h.0)), compounds_right Fits inside around ih cs h.1)

  -- ---- a relative

  next_right : (el : Option (List ℕ)) → AllRight (next_brackets d el)
  next_right None = no_expression
  next_right (Some n) = one (elements_typed d axis.OwnSelf (Some n))

  link_right : (l : Link) (el : Option (List ℕ)) → AllRight (link_brackets d l el)
  link_right link.First el = name_right d el
  link_right link.Descendant el = name_right d el
  link_right link.Child el = name_right d el
  link_right link.Next el = front (number_typed (pos 1)) (next_right el)
  link_right link.Later el = name_right d el

  -- a part whose simples fit, where Fits is asked of each with the part's element around it
  fitting_right : (Fits : Option (List ℕ) → Simple → Type 0) → ((a : Option (List ℕ)) (s : Simple) → Fits a s → SimpleRight a s) → (p : Part) → All (Fits (out-Part p).element) (out-Part p).simples → step_right (step_of d p) ≡ true
  fitting_right Fits ih p fits =
      let el : Option (List ℕ) = (out-Part p).element in
      ap step_right (asked_at_part d p)
      ∙ step_typed (axis_of (out-Part p).link) (link_test d (out-Part p).link el)
      (join (link_right (out-Part p).link el) (simples_right el (out-Part p).simples (all_of (Fits el) el (ih el) (out-Part p).simples (recursion_from_All (Fits el) (out-Part p).simples fits))))

  -- parts whose steps are typed right, and what stands behind them
  pub steps_right : (ps : List Part) (ws : List Step) → AllByRecursion (λ p. step_right (step_of d p) ≡ true) ps → list_all (λ s. s) (map step_right ws) ≡ true
      → list_all (λ s. s) (map step_right (map (step_of d) ps ++ ws)) ≡ true
  steps_right [] ws h more = more
  steps_right (p ∷ ps) ws h more = ap (λ b. b && list_all (λ s. s) (map step_right (map (step_of d) ps ++ ws))) h.0 ∙ steps_right ps ws h.1 more

  relatives_right : (Fits : Option (List ℕ) → Simple → Type 0) → ((a : Option (List ℕ)) (s : Simple) → Fits a s → SimpleRight a s)
      → (list : List Relative) → AllByRecursion (FitsRelative Fits) list → AllByRecursion (λ r. IsRight (relative_expression d r)) list
  relatives_right Fits ih [] h = tt
  relatives_right Fits ih (r ∷ rs) h =
      let steps : List Step = map (step_of d) (out-Relative r).parts in
      let all : list_all (λ s. s) (map step_right steps) ≡ true =
      subst (λ ws. list_all (λ s. s) (map step_right ws) ≡ true) (append-nil steps) (steps_right (out-Relative r).parts [] (all_right (out-Relative r).parts (recursion_from_All (FitsPart Fits) (out-Relative r).parts h.0.1)) refl) in (
        subst IsRight (sym (asked_at_relative d r)) (right {s = shape.Nodes} (record { is = path_typing steps ∙ ap (λ b. record { shape = shape.Nodes; right = b }) all })),
        relatives_right Fits ih rs h.1,
      )
    where
      all_right : (ps : List Part) → AllByRecursion (FitsPart Fits) ps → AllByRecursion (λ p. step_right (step_of d p) ≡ true) ps
      all_right [] k = tt
      all_right (p ∷ ps) k = (fitting_right Fits ih p k.0.1, all_right ps k.1)

  -- ---- each test

  abbrev TestRight : Option (List ℕ) → Test → Type 0
  TestRight around u = AskedRight (test_asked d u around)

  made : (around : Option (List ℕ)) (l : Layer) → AskedRight (asked_layer d l around) → TestRight around (roll-Test l)
  made around l h = subst AskedRight (sym (ap (λ f. f around) (asked_at d l))) h

  layer_right : (Fits : Bool → Option (List ℕ) → Simple → Type 0) → ((inside : Bool) (a : Option (List ℕ)) (s : Simple) → Fits inside a s → SimpleRight a s)
      → (room inside negated : Bool) (around : Option (List ℕ)) (l : Layer) → FitsTest Fits room inside around negated l → TestRight around (roll-Test l)
  layer_right Fits ih room inside negated around (open_.Element n) fits = made around (open_.Element n) (of_one (right (elements_typed d axis.OwnSelf n)))
  layer_right Fits ih room inside negated around (open_.Id v) fits = made around (open_.Id v) (of_itself (one (equals_typed (plain_attribute_typed (codes "id")) (text_typed v))))
  layer_right Fits ih room inside negated around (open_.Class v) fits = made around (open_.Class v) (of_itself (op_right (x.attribute d (codes "class")) (attribute_typed d (codes "class")) op.Word v))
  layer_right Fits ih room inside negated around (open_.Attr name o v) fits = made around (open_.Attr name o v) (of_itself (op_right (x.attribute d name) (attribute_typed d name) o v))
  layer_right Fits ih room inside negated around (open_.Nth kind a b) fits = made around (open_.Nth kind a b) (of_itself (nth_right d around kind a b))
  layer_right Fits ih room inside negated around (open_.Pseudo c) fits = made around (open_.Pseudo c) (of_itself (pseudo_right d around c))
  layer_right Fits ih room inside negated around (open_.Contains v) fits =
      made around (open_.Contains v) (of_itself (one (call_two f.Contains (path_typed axis.OwnSelf node.Node no_expression) (text_typed v) refl)))
  layer_right Fits ih room inside negated around (open_.Lang v) fits = made around (open_.Lang v) (of_itself (lang_right d v))
  layer_right Fits ih room inside negated around (open_.Any w list) fits =
      made around (open_.Any w list) (subst AskedRight (sym (asked_at_any d w list around)) (of_one (choice_right (λ c. compound_expression d c around) list
      (compounds_right Fits inside around (λ a s k. ih inside a s k) list (recursion_from_All (λ v. All (Fits inside (innermost around (out-Compound v).element)) (out-Compound v).simples) list fits.2)))))
  layer_right Fits ih room inside negated around (open_.Has list) fits =
      made around (open_.Has list) (of_itself (one (choice_right (relative_expression d) list
      (relatives_right (Fits true) (λ a s k. ih true a s k) list (recursion_from_All (FitsRelative (Fits true)) list fits.3))).typed))

  by_layer : (Fits : Bool → Option (List ℕ) → Simple → Type 0) → ((inside : Bool) (a : Option (List ℕ)) (s : Simple) → Fits inside a s → SimpleRight a s)
      → (room inside : Bool) (around : Option (List ℕ)) (s : Simple) → FitsTest Fits room inside around s.negated (out-Test s.test) → SimpleRight around s
  by_layer Fits ih room inside around s fits =
      let h : TestRight around s.test = subst (TestRight around) (views.roll-out-Test s.test) (layer_right Fits ih room inside s.negated around (out-Test s.test) fits) in
      subst AllRight (sym (asked_at_simple d s around)) (by_sign s.negated (one (not_typed h.inside.typed)) h.plainly)

  -- the predicates of a well made simple are typed right
  simple_right : (n : ℕ) (inside : Bool) (around : Option (List ℕ)) (s : Simple) → FitsSimple n inside around s → SimpleRight around s
  unfolding FitsSimple
  simple_right zero inside around s fits = by_layer Nowhere (λ i a y h. absurd h) false inside around s fits
  simple_right (suc n) inside around s fits = by_layer (FitsSimple n) (λ i a y h. simple_right n i a y h) true inside around s fits

  pub part_right : (p : Part) → IsPart p → step_right (step_of d p) ≡ true
  part_right p h = fitting_right (FitsSimple 8 false) (simple_right 8 false) p h
