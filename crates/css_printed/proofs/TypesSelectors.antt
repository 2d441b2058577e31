-- The types of the expressions of selectors and lists.
use Rattle.std.proofs.Common.{◌≡◌, refl, ◌∙◌, ap, true, ◌&&◌, List, [], ◌∷◌, map}
use Rattle.std.specs.List.{list_all, AllByRecursion}
use Rattle.std.proofs.lemmas.List.Elements.{recursion_from_All}
use Rattle.doc_model.specs.declared.Axis.TheVariants as axis
use Rattle.doc_model.specs.declared.NodeTest.TheVariants as node
use Rattle.css_selectors.specs.declared.selector.Dialect.{Dialect}
use Rattle.css_selectors.specs.declared.selector.Part.{Part}
use Rattle.css_selectors.specs.declared.selector.Selector.{Selector}
use Rattle.css_selectors.specs.declared.selector.SelectorList.{SelectorList}
use Rattle.css_selectors.specs.declared.selector.Tail.{Tail}
use Rattle.css_selectors.specs.declared.selector.Tail.TheVariants as tail
use Rattle.css_selectors.specs.WellMade.{WellMade, IsSelector, IsPart}
use Rattle.css_meaning.specs.Names.{folded}
use Rattle.xpath_values.specs.declared.value.Shape.TheVariants as shape
use Rattle.xpath_parser.specs.Shapes.{Typing, typing, shape_of, is_well_typed, is_nodes}
use Rattle.css_printed.specs.inner.Expression.{tail_steps, selector_steps, selector_expression, expression, united}
use Rattle.css_printed.specs.inner.Predicates.{test_of_name}
use Rattle.css_printed.specs.inner.TestPredicates.{step_of}
use Rattle.css_printed.proofs.Typed.{step_right, path_typing}
use Rattle.css_printed.proofs.TypesChoices.{part_right, steps_right}
use Rattle.css_printed.proofs.TypesPieces.{Typed, union_typing, no_expression, step_typed}
use Rattle.css_printed.proofs.TypesTests.{of_name_right}

tail_right : (d : Dialect) (u : Tail) → list_all (λ s. s) (map step_right (tail_steps d u)) ≡ true
tail_right d tail.Element = refl
tail_right d tail.Text = ap (λ b. b && true) (step_typed axis.Child node.Text no_expression)
tail_right d (tail.Attr n) = ap (λ b. b && true) (step_typed axis.Attribute (test_of_name (folded d n)) (of_name_right (folded d n)))

all_right : (d : Dialect) (ps : List Part) → AllByRecursion IsPart ps → AllByRecursion (λ p. step_right (step_of d p) ≡ true) ps
all_right d [] h = tt
all_right d (p ∷ ps) h = (part_right d p h.0, all_right d ps h.1)

pub selector_typed : (d : Dialect) (s : Selector) → IsSelector s → Typed (selector_expression d s) shape.Nodes
selector_typed d s h = record { is = path_typing (selector_steps d s) ∙ ap (λ b. record { shape = shape.Nodes; right = b }) (steps_right d s.parts (tail_steps d s.tail) (all_right d s.parts (recursion_from_All IsPart s.parts h.parts)) (tail_right d s.tail)) }

all_nodes : (d : Dialect) (ss : List Selector) → AllByRecursion IsSelector ss → list_all (λ (t : Typing). t.right && is_nodes t.shape) (map typing (map (selector_expression d) ss)) ≡ true
all_nodes d [] h = refl
all_nodes d (s ∷ ss) h =
    ap (λ (t : Typing). (t.right && is_nodes t.shape) && list_all (λ (t : Typing). t.right && is_nodes t.shape) (map typing (map (selector_expression d) ss))) (selector_typed d s h.0).is
    ∙ all_nodes d ss h.1

united_typed : (d : Dialect) (ss : List Selector) → AllByRecursion IsSelector ss → Typed (united (map (selector_expression d) ss)) shape.Nodes
united_typed d [] h = record { is = union_typing [] }
united_typed d (s ∷ []) h = selector_typed d s h.0
united_typed d (s ∷ (u ∷ us)) h = record {
  is = union_typing (map (selector_expression d) (s ∷ (u ∷ us))) ∙ ap (λ b. record { shape = shape.Nodes; right = b }) (all_nodes d (s ∷ (u ∷ us)) h);
}

-- the expression of every well made list is typed right
pub list_typed : (d : Dialect) (list : SelectorList) → WellMade list → is_well_typed (expression d list) ≡ true
list_typed d list made = ap (λ (t : Typing). t.right) (united_typed d list.items (recursion_from_All IsSelector list.items made.each)).is

-- and gives nodes
pub list_shape : (d : Dialect) (list : SelectorList) → WellMade list → shape_of (expression d list) ≡ shape.Nodes
list_shape d list made = ap (λ (t : Typing). t.shape) (united_typed d list.items (recursion_from_All IsSelector list.items made.each)).is
