-- The expression that the printed text of a selector list reads as.
use Rattle.std.specs.Prelude.{List, [], ◌∷◌, ◌++◌, map}
use Rattle.doc_model.specs.declared.Axis.TheVariants as axis
use Rattle.doc_model.specs.declared.NodeTest.TheVariants as node
use Rattle.css_selectors.specs.declared.selector.Dialect.{Dialect}
use Rattle.css_selectors.specs.declared.selector.Selector.{Selector}
use Rattle.css_selectors.specs.declared.selector.SelectorList.{SelectorList}
use Rattle.css_selectors.specs.declared.selector.Tail.{Tail}
use Rattle.css_selectors.specs.declared.selector.Tail.TheVariants as tail
use Rattle.xpath_parser.specs.declared.expression.Expr.{Expr}
use Rattle.xpath_parser.specs.declared.expression.Expr.TheVariants as e
use Rattle.xpath_parser.specs.declared.expression.Start.TheVariants as start
use Rattle.xpath_parser.specs.declared.expression.Step.{Step}
use Rattle.css_printed.specs.inner.Predicates.{step, attribute_step}
use Rattle.css_printed.specs.inner.TestPredicates.{step_of}

abbrev pub tail_steps : Dialect → Tail → List Step
tail_steps dialect tail.Element = []
tail_steps dialect tail.Text = step axis.Child node.Text [] ∷ []
tail_steps dialect (tail.Attr n) = attribute_step dialect n ∷ []

abbrev pub selector_steps : Dialect → Selector → List Step
selector_steps dialect s = map (step_of dialect) s.parts ++ tail_steps dialect s.tail

abbrev pub selector_expression : Dialect → Selector → Expr
selector_expression dialect s = e.Path start.Here (selector_steps dialect s)

-- one alone, or the union of several
abbrev pub united : List Expr → Expr
united [] = e.Union []
united (x ∷ []) = x
united (x ∷ (y ∷ ys)) = e.Union (x ∷ (y ∷ ys))

abbrev pub expression : Dialect → SelectorList → Expr
expression dialect list = united (map (selector_expression dialect) list.items)
