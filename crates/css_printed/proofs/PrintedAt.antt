-- The texts, the terms and the predicates of simple selectors and relatives, one level at a time.
use Rattle.std.proofs.Common.{◌≡◌, sym, ◌∙◌, ap, ℕ, ℤ, cond, List, [], ◌∷◌, ◌++◌, map, Option, codes}
use Rattle.std.specs.Prelude.{encode_utf8_all}
use Rattle.std.specs.List.{flat_map}
use Rattle.std.proofs.lemmas.List.Folds.{flat_map-map}
use mathlib.Core.List.{map-map}
use Rattle.doc_model.specs.declared.Axis.TheVariants as axis
use Rattle.css_selectors.specs.declared.selector.Compound.{Compound, out-Compound}
use Rattle.css_selectors.specs.declared.selector.Dialect.{Dialect}
use Rattle.css_selectors.specs.declared.selector.Nth.{Nth}
use Rattle.css_selectors.specs.declared.selector.Op.{Op}
use Rattle.css_selectors.specs.declared.selector.Op.TheVariants as op
use Rattle.css_selectors.specs.declared.selector.Part.{Part, out-Part}
use Rattle.css_selectors.specs.declared.selector.Pseudo.{Pseudo}
use Rattle.css_selectors.specs.declared.selector.Relative.{Relative, out-Relative}
use Rattle.css_selectors.specs.declared.selector.Simple.{Simple}
use Rattle.css_selectors.specs.declared.selector.Test.{Test, roll-Test}
use Rattle.css_selectors.specs.declared.selector.Test.TheFolds.{map-Test, fold-roll-Test, fold_out-Compound, fold_out-Part, fold_out-Relative, fold_out-Simple}
use Rattle.css_selectors.specs.declared.selector.Test.TheOpen as open_
use Rattle.css_selectors.specs.declared.selector.Test.TheVariants as v
use Rattle.css_selectors.specs.declared.selector.Weight.{Weight}
use Rattle.css_selectors.specs.WellMade.{innermost}
use Rattle.xpath_parser.specs.declared.expression.Expr.{Expr}
use Rattle.xpath_parser.specs.declared.expression.Expr.TheVariants as e
use Rattle.xpath_parser.specs.declared.expression.Func.TheVariants as f
use Rattle.xpath_parser.specs.declared.expression.Start.TheVariants as start
use Rattle.xpath_parser.specs.declared.expression.Step.{Step}
use Rattle.xpath_parser.specs.declared.term.Term.{Term}
use Rattle.css_printed.specs.inner.LinkPredicates.{axis_of, link_test, link_brackets}
use Rattle.css_printed.specs.Links.{first_text, step_text}
use Rattle.css_printed.specs.Literals.{literal_text}
use Rattle.css_printed.specs.Names.{element_text, attribute_text}
use Rattle.css_printed.specs.Simples.{op_text, nth_text, pseudo_text, lang_text}
use Rattle.css_printed.specs.inner.Predicates.{step, path, node_test, name_brackets, not_one}
use Rattle.css_printed.specs.Printed.{part_text}
use Rattle.css_printed.specs.inner.TestPredicates as x
use Rattle.css_printed.specs.inner.TestPredicates.{Asked, test_asked, compound_expression, step_of, relative_expression, simple_predicates}
use Rattle.css_printed.specs.TestTexts as s
use Rattle.css_printed.specs.TestTexts.{Bytes, ByName, Said, Steps, test_said, compound_text, part_steps, relative_text, simple_text}
use Rattle.css_printed.proofs.TemplateTerms as t
use Rattle.css_printed.proofs.TemplateTerms.{test_terms, compound_terms, relative_terms, simple_terms}

-- a test, opened
abbrev pub Layer : Type 0
Layer = open_.Test-F Test Compound Part Relative Simple

module _ (d : Dialect) where
  -- ---- texts

  abbrev pub text_layer : Layer → ByName Said
  text_layer l = s.test_step d (map-Test Test Compound Part Relative Simple (ByName Said) (ByName Bytes) Steps Bytes (ByName Bytes) (test_said d) (compound_text d) (part_steps d) (relative_text d) (simple_text d) l)

  pub text_at : (l : Layer) → test_said d (roll-Test l) ≡ text_layer l
  unfolding test_said compound_text part_steps relative_text simple_text
  text_at l = fold-roll-Test (ByName Said) (ByName Bytes) Steps Bytes (ByName Bytes) (s.test_step d) (s.compound_step d) (s.part_step d) (s.relative_step d) (s.simple_step d) l

  pub text_at_simple : (x : Simple) (around : Option (List ℕ)) → simple_text d x around ≡ cond x.negated (codes "[not(" ++ ((test_said d x.test around).inside ++ codes ")]")) (test_said d x.test around).brackets
  unfolding test_said compound_text part_steps relative_text simple_text
  text_at_simple x around = ap (λ h. h around) (fold_out-Simple (ByName Said) (ByName Bytes) Steps Bytes (ByName Bytes) (s.test_step d) (s.compound_step d) (s.part_step d) (s.relative_step d) (s.simple_step d) x)

  pub text_at_compound : (c : Compound) (around : Option (List ℕ)) → compound_text d c around
      ≡ codes "self::" ++ (element_text d (out-Compound c).element ++ flat_map (λ z. simple_text d z (innermost around (out-Compound c).element)) (out-Compound c).simples)
  unfolding test_said compound_text part_steps relative_text simple_text
  text_at_compound c around =
      ap (λ h. h around) (fold_out-Compound (ByName Said) (ByName Bytes) Steps Bytes (ByName Bytes) (s.test_step d) (s.compound_step d) (s.part_step d) (s.relative_step d) (s.simple_step d) c)
      ∙ ap (λ r. codes "self::" ++ (element_text d (out-Compound c).element ++ r)) (flat_map-map (λ (h : ByName Bytes). h (innermost around (out-Compound c).element)) (simple_text d) (out-Compound c).simples)

  pub text_at_first : (p : Part) → (part_steps d p).first ≡ first_text d (out-Part p).link (out-Part p).element ++ flat_map (λ z. simple_text d z (out-Part p).element) (out-Part p).simples
  unfolding test_said compound_text part_steps relative_text simple_text
  text_at_first p =
      ap (λ x. x.first) (fold_out-Part (ByName Said) (ByName Bytes) Steps Bytes (ByName Bytes) (s.test_step d) (s.compound_step d) (s.part_step d) (s.relative_step d) (s.simple_step d) p)
      ∙ ap (λ r. first_text d (out-Part p).link (out-Part p).element ++ r) (flat_map-map (λ (h : ByName Bytes). h (out-Part p).element) (simple_text d) (out-Part p).simples)

  pub text_at_part : (p : Part) → part_text d p ≡ step_text d (out-Part p).link (out-Part p).element ++ flat_map (λ z. simple_text d z (out-Part p).element) (out-Part p).simples
  unfolding test_said compound_text part_steps relative_text simple_text
  text_at_part p =
      ap (λ x. x.further) (fold_out-Part (ByName Said) (ByName Bytes) Steps Bytes (ByName Bytes) (s.test_step d) (s.compound_step d) (s.part_step d) (s.relative_step d) (s.simple_step d) p)
      ∙ ap (λ r. step_text d (out-Part p).link (out-Part p).element ++ r) (flat_map-map (λ (h : ByName Bytes). h (out-Part p).element) (simple_text d) (out-Part p).simples)

  pub text_at_relative : (r : Relative) → relative_text d r ≡ s.path_text (map (part_steps d) (out-Relative r).parts)
  unfolding test_said compound_text part_steps relative_text simple_text
  text_at_relative r = fold_out-Relative (ByName Said) (ByName Bytes) Steps Bytes (ByName Bytes) (s.test_step d) (s.compound_step d) (s.part_step d) (s.relative_step d) (s.simple_step d) r

  pub text_at_any : (w : Weight) (list : List Compound) (around : Option (List ℕ)) → text_layer (open_.Any w list) around ≡ s.alone (s.choice (map (λ c. compound_text d c around) list))
  text_at_any w list around = ap (λ xs. s.alone (s.choice xs)) (map-map (λ (h : ByName Bytes). h around) (compound_text d) list)

  -- a variant, as its layer
  of_layer : (u : Test) (l : Layer) → roll-Test l ≡ u → (around : Option (List ℕ)) → test_said d u around ≡ text_layer l around
  of_layer u l is around = ap (λ w. test_said d w around) (sym is) ∙ ap (λ g. g around) (text_at l)

  pub said_element : (n around : Option (List ℕ)) → test_said d (v.Element n) around ≡ s.alone (codes "self::" ++ element_text d n)
  said_element n around = of_layer (v.Element n) (open_.Element n) (v.rolls-Element n) around

  pub said_id : (w : List ℕ) (around : Option (List ℕ)) → test_said d (v.Id w) around ≡ s.by_itself (codes "[@id = " ++ (literal_text (encode_utf8_all w) ++ codes "]"))
  said_id w around = of_layer (v.Id w) (open_.Id w) (v.rolls-Id w) around

  pub said_class : (w : List ℕ) (around : Option (List ℕ)) → test_said d (v.Class w) around ≡ s.by_itself (op_text (attribute_text d (codes "class")) op.Word w)
  said_class w around = of_layer (v.Class w) (open_.Class w) (v.rolls-Class w) around

  pub said_attr : (n : List ℕ) (o : Op) (w : List ℕ) (around : Option (List ℕ)) → test_said d (v.Attr n o w) around ≡ s.by_itself (op_text (attribute_text d n) o w)
  said_attr n o w around = of_layer (v.Attr n o w) (open_.Attr n o w) (v.rolls-Attr n o w) around

  pub said_nth : (kind : Nth) (a b : ℤ) (around : Option (List ℕ)) → test_said d (v.Nth kind a b) around ≡ s.by_itself (nth_text d around kind a b)
  said_nth kind a b around = of_layer (v.Nth kind a b) (open_.Nth kind a b) (v.rolls-Nth kind a b) around

  pub said_pseudo : (p : Pseudo) (around : Option (List ℕ)) → test_said d (v.Pseudo p) around ≡ s.by_itself (pseudo_text d around p)
  said_pseudo p around = of_layer (v.Pseudo p) (open_.Pseudo p) (v.rolls-Pseudo p) around

  pub said_contains : (w : List ℕ) (around : Option (List ℕ)) → test_said d (v.Contains w) around ≡ s.by_itself (codes "[contains(., " ++ (literal_text (encode_utf8_all w) ++ codes ")]"))
  said_contains w around = of_layer (v.Contains w) (open_.Contains w) (v.rolls-Contains w) around

  pub said_lang : (w : List ℕ) (around : Option (List ℕ)) → test_said d (v.Lang w) around ≡ s.by_itself (lang_text d w)
  said_lang w around = of_layer (v.Lang w) (open_.Lang w) (v.rolls-Lang w) around

  pub said_any : (w : Weight) (list : List Compound) (around : Option (List ℕ)) → test_said d (v.Any w list) around ≡ s.alone (s.choice (map (λ c. compound_text d c around) list))
  said_any w list around = of_layer (v.Any w list) (open_.Any w list) (v.rolls-Any w list) around ∙ text_at_any w list around

  pub said_has : (list : List Relative) (around : Option (List ℕ)) → test_said d (v.Has list) around ≡ s.by_itself (codes "[" ++ (s.choice (map (relative_text d) list) ++ codes "]"))
  said_has list around = of_layer (v.Has list) (open_.Has list) (v.rolls-Has list) around

  -- ---- terms

  abbrev pub terms_layer : Layer → ByName t.Said
  terms_layer l = t.test_step d (map-Test Test Compound Part Relative Simple (ByName t.Said) (ByName (List Term)) t.Steps (List Term) (ByName (List Term)) (test_terms d) (compound_terms d) (t.part_steps d) (relative_terms d) (simple_terms d) l)

  pub terms_at : (l : Layer) → test_terms d (roll-Test l) ≡ terms_layer l
  unfolding test_terms compound_terms t.part_steps relative_terms simple_terms
  terms_at l = fold-roll-Test (ByName t.Said) (ByName (List Term)) t.Steps (List Term) (ByName (List Term)) (t.test_step d) (t.compound_step d) (t.part_step d) (t.relative_step d) (t.simple_step d) l

  pub terms_at_simple : (x : Simple) (around : Option (List ℕ)) → simple_terms d x around ≡ cond x.negated (t.in_square (t.call f.Not (test_terms d x.test around).inside)) (test_terms d x.test around).brackets
  unfolding test_terms compound_terms t.part_steps relative_terms simple_terms
  terms_at_simple x around = ap (λ h. h around) (fold_out-Simple (ByName t.Said) (ByName (List Term)) t.Steps (List Term) (ByName (List Term)) (t.test_step d) (t.compound_step d) (t.part_step d) (t.relative_step d) (t.simple_step d) x)

  pub terms_at_compound : (c : Compound) (around : Option (List ℕ)) → compound_terms d c around
      ≡ t.on_axis axis.OwnSelf (t.element d (out-Compound c).element ++ flat_map (λ z. simple_terms d z (innermost around (out-Compound c).element)) (out-Compound c).simples)
  unfolding test_terms compound_terms t.part_steps relative_terms simple_terms
  terms_at_compound c around =
      ap (λ h. h around) (fold_out-Compound (ByName t.Said) (ByName (List Term)) t.Steps (List Term) (ByName (List Term)) (t.test_step d) (t.compound_step d) (t.part_step d) (t.relative_step d) (t.simple_step d) c)
      ∙ ap (λ r. t.on_axis axis.OwnSelf (t.element d (out-Compound c).element ++ r)) (flat_map-map (λ (h : ByName (List Term)). h (innermost around (out-Compound c).element)) (simple_terms d) (out-Compound c).simples)

  pub terms_at_first : (p : Part) → (t.part_steps d p).first ≡ t.first_terms d (out-Part p).link (out-Part p).element ++ flat_map (λ z. simple_terms d z (out-Part p).element) (out-Part p).simples
  unfolding test_terms compound_terms t.part_steps relative_terms simple_terms
  terms_at_first p =
      ap (λ x. x.first) (fold_out-Part (ByName t.Said) (ByName (List Term)) t.Steps (List Term) (ByName (List Term)) (t.test_step d) (t.compound_step d) (t.part_step d) (t.relative_step d) (t.simple_step d) p)
      ∙ ap (λ r. t.first_terms d (out-Part p).link (out-Part p).element ++ r) (flat_map-map (λ (h : ByName (List Term)). h (out-Part p).element) (simple_terms d) (out-Part p).simples)

  pub terms_at_part : (p : Part) → t.part_terms d p ≡ t.link_step_terms d (out-Part p).link (out-Part p).element ++ flat_map (λ z. simple_terms d z (out-Part p).element) (out-Part p).simples
  unfolding test_terms compound_terms t.part_steps relative_terms simple_terms
  terms_at_part p =
      ap (λ x. x.further) (fold_out-Part (ByName t.Said) (ByName (List Term)) t.Steps (List Term) (ByName (List Term)) (t.test_step d) (t.compound_step d) (t.part_step d) (t.relative_step d) (t.simple_step d) p)
      ∙ ap (λ r. t.link_step_terms d (out-Part p).link (out-Part p).element ++ r) (flat_map-map (λ (h : ByName (List Term)). h (out-Part p).element) (simple_terms d) (out-Part p).simples)

  pub terms_at_relative : (r : Relative) → relative_terms d r ≡ t.path_terms (map (t.part_steps d) (out-Relative r).parts)
  unfolding test_terms compound_terms t.part_steps relative_terms simple_terms
  terms_at_relative r = fold_out-Relative (ByName t.Said) (ByName (List Term)) t.Steps (List Term) (ByName (List Term)) (t.test_step d) (t.compound_step d) (t.part_step d) (t.relative_step d) (t.simple_step d) r

  pub terms_at_any : (w : Weight) (list : List Compound) (around : Option (List ℕ)) → terms_layer (open_.Any w list) around ≡ t.alone (t.choice (map (λ c. compound_terms d c around) list))
  terms_at_any w list around = ap (λ xs. t.alone (t.choice xs)) (map-map (λ (h : ByName (List Term)). h around) (compound_terms d) list)

  -- ---- predicates

  abbrev pub asked_layer : Layer → ByName Asked
  asked_layer l = x.test_step d (map-Test Test Compound Part Relative Simple (ByName Asked) (ByName Expr) Step Expr (ByName (List Expr)) (test_asked d) (compound_expression d) (step_of d) (relative_expression d) (simple_predicates d) l)

  pub asked_at : (l : Layer) → test_asked d (roll-Test l) ≡ asked_layer l
  unfolding test_asked compound_expression step_of relative_expression simple_predicates
  asked_at l = fold-roll-Test (ByName Asked) (ByName Expr) Step Expr (ByName (List Expr)) (x.test_step d) (x.compound_step d) (x.part_step d) (x.relative_step d) (x.simple_step d) l

  pub asked_at_simple : (z : Simple) (around : Option (List ℕ)) → simple_predicates d z around ≡ cond z.negated (not_one (test_asked d z.test around).inside ∷ []) (test_asked d z.test around).brackets
  unfolding test_asked compound_expression step_of relative_expression simple_predicates
  asked_at_simple z around = ap (λ h. h around) (fold_out-Simple (ByName Asked) (ByName Expr) Step Expr (ByName (List Expr)) (x.test_step d) (x.compound_step d) (x.part_step d) (x.relative_step d) (x.simple_step d) z)

  pub asked_at_compound : (c : Compound) (around : Option (List ℕ)) → compound_expression d c around
      ≡ path axis.OwnSelf (node_test d (out-Compound c).element) (name_brackets d (out-Compound c).element ++ flat_map (λ z. simple_predicates d z (innermost around (out-Compound c).element)) (out-Compound c).simples)
  unfolding test_asked compound_expression step_of relative_expression simple_predicates
  asked_at_compound c around =
      ap (λ h. h around) (fold_out-Compound (ByName Asked) (ByName Expr) Step Expr (ByName (List Expr)) (x.test_step d) (x.compound_step d) (x.part_step d) (x.relative_step d) (x.simple_step d) c)
      ∙ ap (λ r. path axis.OwnSelf (node_test d (out-Compound c).element) (name_brackets d (out-Compound c).element ++ r)) (flat_map-map (λ (h : ByName (List Expr)). h (innermost around (out-Compound c).element)) (simple_predicates d) (out-Compound c).simples)

  pub asked_at_part : (p : Part) → step_of d p
      ≡ step (axis_of (out-Part p).link) (link_test d (out-Part p).link (out-Part p).element)
      (link_brackets d (out-Part p).link (out-Part p).element ++ flat_map (λ z. simple_predicates d z (out-Part p).element) (out-Part p).simples)
  unfolding test_asked compound_expression step_of relative_expression simple_predicates
  asked_at_part p =
      fold_out-Part (ByName Asked) (ByName Expr) Step Expr (ByName (List Expr)) (x.test_step d) (x.compound_step d) (x.part_step d) (x.relative_step d) (x.simple_step d) p
      ∙ ap (λ r. step (axis_of (out-Part p).link) (link_test d (out-Part p).link (out-Part p).element) (link_brackets d (out-Part p).link (out-Part p).element ++ r)) (flat_map-map (λ (h : ByName (List Expr)). h (out-Part p).element) (simple_predicates d) (out-Part p).simples)

  pub asked_at_relative : (r : Relative) → relative_expression d r ≡ e.Path start.Here (map (step_of d) (out-Relative r).parts)
  unfolding test_asked compound_expression step_of relative_expression simple_predicates
  asked_at_relative r = fold_out-Relative (ByName Asked) (ByName Expr) Step Expr (ByName (List Expr)) (x.test_step d) (x.compound_step d) (x.part_step d) (x.relative_step d) (x.simple_step d) r

  pub asked_at_any : (w : Weight) (list : List Compound) (around : Option (List ℕ)) → asked_layer (open_.Any w list) around ≡ x.alone (x.choice (map (λ c. compound_expression d c around) list))
  asked_at_any w list around = ap (λ xs. x.alone (x.choice xs)) (map-map (λ (h : ByName Expr). h around) (compound_expression d) list)
