-- What the step of a part asks for before its simples: its axis, its node test and its first predicates.
use Rattle.std.specs.Prelude.{ℕ, List, [], ◌∷◌, Option, Some, None}
use Rattle.doc_model.specs.declared.Axis.{Axis}
use Rattle.doc_model.specs.declared.Axis.TheVariants as axis
use Rattle.doc_model.specs.declared.NodeTest.{NodeTest}
use Rattle.doc_model.specs.declared.NodeTest.TheVariants as node
use Rattle.css_selectors.specs.declared.selector.Dialect.{Dialect}
use Rattle.css_selectors.specs.declared.selector.Link.{Link}
use Rattle.css_selectors.specs.declared.selector.Link.TheVariants as link
use Rattle.xpath_parser.specs.declared.expression.Expr.{Expr}
use Rattle.css_printed.specs.inner.Predicates.{elements, number, node_test, name_brackets}

abbrev pub axis_of : Link → Axis
axis_of link.First = axis.DescendantOrSelf
axis_of link.Descendant = axis.Descendant
axis_of link.Child = axis.Child
axis_of link.Next = axis.FollowingSibling
axis_of link.Later = axis.FollowingSibling

-- the nearest sibling is any element, and its name is looked at afterwards
abbrev pub link_test : Dialect → Link → Option (List ℕ) → NodeTest
link_test dialect link.Next element = node.AnyName
link_test dialect link.First element = node_test dialect element
link_test dialect link.Descendant element = node_test dialect element
link_test dialect link.Child element = node_test dialect element
link_test dialect link.Later element = node_test dialect element

abbrev pub next_brackets : Dialect → Option (List ℕ) → List Expr
next_brackets dialect None = []
next_brackets dialect (Some n) = elements dialect axis.OwnSelf (Some n) ∷ []

abbrev pub link_brackets : Dialect → Link → Option (List ℕ) → List Expr
link_brackets dialect link.Next element = number 1 ∷ next_brackets dialect element
link_brackets dialect link.First element = name_brackets dialect element
link_brackets dialect link.Descendant element = name_brackets dialect element
link_brackets dialect link.Child element = name_brackets dialect element
link_brackets dialect link.Later element = name_brackets dialect element
