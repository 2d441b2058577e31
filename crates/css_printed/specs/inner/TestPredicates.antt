-- The predicates that the printed simple selectors read as, at every depth.
use Rattle.std.specs.Prelude.{if◌then◌else◌, List, [], ◌∷◌, ◌++◌, flat_map, map, codes}
use Rattle.doc_model.specs.declared.Axis.TheVariants as axis
use Rattle.doc_model.specs.declared.NodeTest.TheVariants as node
use Rattle.css_selectors.specs.declared.selector.Compound.{Compound}
use Rattle.css_selectors.specs.declared.selector.Dialect.{Dialect}
use Rattle.css_selectors.specs.declared.selector.Op.TheVariants as op
use Rattle.css_selectors.specs.declared.selector.Part.{Part}
use Rattle.css_selectors.specs.declared.selector.Relative.{Relative}
use Rattle.css_selectors.specs.declared.selector.Simple.{Simple}
use Rattle.css_selectors.specs.declared.selector.Test.{Test}
use Rattle.css_selectors.specs.declared.selector.Test.TheFolds.{fold-Test, fold-Compound, fold-Part, fold-Relative, fold-Simple}
use Rattle.css_selectors.specs.declared.selector.Test.TheOpen as open_
use Rattle.css_selectors.specs.WellMade.{innermost}
use Rattle.xpath_parser.specs.declared.expression.Expr.{Expr}
use Rattle.xpath_parser.specs.declared.expression.Expr.TheVariants as e
use Rattle.xpath_parser.specs.declared.expression.Func.TheVariants as f
use Rattle.xpath_parser.specs.declared.expression.Start.TheVariants as start
use Rattle.xpath_parser.specs.declared.expression.Step.{Step}
use Rattle.css_printed.specs.inner.LinkPredicates.{axis_of, link_test, link_brackets}
use Rattle.css_printed.specs.inner.Predicates.{step, path, elements, node_test, name_brackets, plain_attribute, attribute, equals, literal, not_one, op_predicate, nth_predicates, pseudo_predicates, lang_predicate}
use Rattle.css_printed.specs.TestTexts.{ByName}

-- the predicates of a test, and what its negation asks for
pub record Asked : Type 0 where
  pub brackets : List Expr
  pub inside : Expr

abbrev pub itself : List Expr → Expr
itself ps = path axis.OwnSelf node.AnyName ps

-- predicates that are negated at the element itself
abbrev pub by_itself : List Expr → Asked
by_itself ps = record { brackets = ps; inside = itself ps }

-- one predicate, which is negated as it stands
abbrev pub alone : Expr → Asked
alone x = record { brackets = x ∷ []; inside = x }

-- one alone, or any of several
abbrev pub choice : List Expr → Expr
choice [] = e.Or []
choice (x ∷ []) = x
choice (x ∷ (y ∷ ys)) = e.Or (x ∷ (y ∷ ys))

module _ (dialect : Dialect) where
  abbrev pub test_step : open_.Test-F (ByName Asked) (ByName Expr) Step Expr (ByName (List Expr)) → ByName Asked
  test_step (open_.Element n) around = alone (elements dialect axis.OwnSelf n)
  test_step (open_.Id x) around = by_itself (equals (plain_attribute (codes "id")) (literal x) ∷ [])
  test_step (open_.Class x) around = by_itself (op_predicate (attribute dialect (codes "class")) op.Word x ∷ [])
  test_step (open_.Attr name o v) around = by_itself (op_predicate (attribute dialect name) o v ∷ [])
  test_step (open_.Nth kind a b) around = by_itself (nth_predicates dialect around kind a b)
  test_step (open_.Pseudo p) around = by_itself (pseudo_predicates dialect around p)
  test_step (open_.Contains x) around = by_itself (e.Call f.Contains (path axis.OwnSelf node.Node [] ∷ literal x ∷ []) ∷ [])
  test_step (open_.Lang x) around = by_itself (lang_predicate dialect x ∷ [])
  test_step (open_.Any w list) around = alone (choice (map (λ c. c around) list))
  test_step (open_.Has list) around = by_itself (choice list ∷ [])

  abbrev pub simple_step : open_.Simple-F (ByName Asked) (ByName Expr) Step Expr (ByName (List Expr)) → ByName (List Expr)
  simple_step x around = if x.negated then not_one (x.test around).inside ∷ [] else (x.test around).brackets

  abbrev pub compound_step : open_.Compound-F (ByName Asked) (ByName Expr) Step Expr (ByName (List Expr)) → ByName Expr
  compound_step c around = path axis.OwnSelf (node_test dialect c.element) (name_brackets dialect c.element ++ flat_map (λ x. x (innermost around c.element)) c.simples)

  abbrev pub part_step : open_.Part-F (ByName Asked) (ByName Expr) Step Expr (ByName (List Expr)) → Step
  part_step p = step (axis_of p.link) (link_test dialect p.link p.element) (link_brackets dialect p.link p.element ++ flat_map (λ x. x p.element) p.simples)

  abbrev pub relative_step : open_.Relative-F (ByName Asked) (ByName Expr) Step Expr (ByName (List Expr)) → Expr
  relative_step r = e.Path start.Here r.parts

  unfoldable pub test_asked : Test → ByName Asked
  test_asked = fold-Test (ByName Asked) (ByName Expr) Step Expr (ByName (List Expr)) test_step compound_step part_step relative_step simple_step

  unfoldable pub compound_expression : Compound → ByName Expr
  compound_expression = fold-Compound (ByName Asked) (ByName Expr) Step Expr (ByName (List Expr)) test_step compound_step part_step relative_step simple_step

  unfoldable pub step_of : Part → Step
  step_of = fold-Part (ByName Asked) (ByName Expr) Step Expr (ByName (List Expr)) test_step compound_step part_step relative_step simple_step

  unfoldable pub relative_expression : Relative → Expr
  relative_expression = fold-Relative (ByName Asked) (ByName Expr) Step Expr (ByName (List Expr)) test_step compound_step part_step relative_step simple_step

  unfoldable pub simple_predicates : Simple → ByName (List Expr)
  simple_predicates = fold-Simple (ByName Asked) (ByName Expr) Step Expr (ByName (List Expr)) test_step compound_step part_step relative_step simple_step
