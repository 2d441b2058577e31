-- Expressions that are one step.
use Rattle.std.specs.Prelude.{◌≡◌, ℕ, List, [], ◌∷◌, ◌++◌, pos}
use Rattle.doc_model.specs.declared.Axis.TheVariants as axis
use Rattle.doc_model.specs.declared.NodeTest.TheVariants as test
use Rattle.xpath_parser.specs.declared.expression.Expr.{Expr}
use Rattle.xpath_parser.specs.declared.expression.Expr.TheVariants.{Path, Number}
use Rattle.xpath_parser.specs.declared.expression.Start.TheVariants.{Here}
use Rattle.xpath_parser.specs.declared.expression.Step.{Step, out-Step}
use Rattle.xpath_eval.specs.inner.Tests.{AreTests}

-- the expressions are one path of one step from the context row, without predicates
pub record IsLoneStep (es : List Expr) (s : Step) : Type 0 where
  pub path : es ≡ Path Here (s ∷ []) ∷ []
  pub plain : (out-Step s).predicates ≡ []

-- the steps are one, without predicates
pub record IsOnlyStep (ss : List Step) (s : Step) : Type 0 where
  pub one : ss ≡ s ∷ []
  pub plain : (out-Step s).predicates ≡ []

-- the expression is such a path
pub record IsLonePath (e : Expr) (s : Step) : Type 0 where
  pub path : e ≡ Path Here (s ∷ [])
  pub plain : (out-Step s).predicates ≡ []

-- the first predicate is the number 1
abbrev pub BeginsWithOne : List Expr → Type 0
BeginsWithOne ps = (more : List Expr) × (ps ≡ Number (pos 1) ∷ more)

-- the step that `//` stands for: a row and all rows below it
pub record IsAllBelow (s : Step) : Type 0 where
  pub axis : (out-Step s).axis ≡ axis.DescendantOrSelf
  pub test : (out-Step s).test ≡ test.Node
  pub plain : (out-Step s).predicates ≡ []

-- a step to children whose predicates ask about the row alone
pub record IsTestedChild (s : Step) : Type 0 where
  pub axis : (out-Step s).axis ≡ axis.Child
  pub tests : AreTests (out-Step s).predicates

-- the last two steps are such steps
pub record EndsBelow (ss : List Step) : Type 0 where
  pub before : List Step
  pub first : Step
  pub second : Step
  pub all : ss ≡ before ++ first ∷ second ∷ []
  pub below : IsAllBelow first
  pub tested : IsTestedChild second

-- a step to the attribute with a name
pub record IsAttributeStep (s : Step) (n : List ℕ) : Type 0 where
  pub axis : (out-Step s).axis ≡ axis.Attribute
  pub test : (out-Step s).test ≡ test.Name n

-- the expression is a path of that step alone, without predicates
pub record IsAttributePath (e : Expr) (n : List ℕ) : Type 0 where
  pub step : Step
  pub path : IsLonePath e step
  pub named : IsAttributeStep step n
