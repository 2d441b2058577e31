-- The types of paths.
use Rattle.std.proofs.Common.{◌≡◌, Bool, true, ◌&&◌, List, ap, sym, ◌∙◌, map}
use Rattle.std.specs.List.{list_all}
use Rattle.doc_model.specs.declared.Axis.{Axis}
use Rattle.doc_model.specs.declared.NodeTest.{NodeTest}
use Rattle.xpath_values.specs.declared.value.Shape.TheVariants as shape
use Rattle.xpath_parser.specs.declared.expression.Expr.{Expr}
use Rattle.xpath_parser.specs.declared.expression.Expr.TheVariants as e
use Rattle.xpath_parser.specs.declared.expression.Expr.TheOpen as open_
use Rattle.xpath_parser.specs.declared.expression.Expr.TheFolds.{fold-Step, fold-Start, fold-roll-Expr, fold-roll-Start, fold-roll-Step}
use Rattle.xpath_parser.specs.declared.expression.Infix.{Infix}
use Rattle.xpath_parser.specs.declared.expression.Start.{Start}
use Rattle.xpath_parser.specs.declared.expression.Expr.TheViews.{rolls-Here}
use Rattle.xpath_parser.specs.declared.expression.Start.TheVariants as start
use Rattle.xpath_parser.specs.declared.expression.Step.{Step}
use Rattle.xpath_parser.specs.Shapes.{Typing, typing, expr_typing, start_typing, operand_typing, step_typing}
use Rattle.css_printed.specs.inner.Predicates.{step}

abbrev Arm : Type 0
Arm = Infix × Typing

unfoldable pub step_right : Step → Bool
step_right = fold-Step Typing Bool Arm Bool expr_typing start_typing operand_typing step_typing

unfoldable start_right : Start → Bool
start_right = fold-Start Typing Bool Arm Bool expr_typing start_typing operand_typing step_typing

here_right : start_right start.Here ≡ true
unfolding start_right
here_right = ap start_right (sym rolls-Here) ∙ fold-roll-Start Typing Bool Arm Bool expr_typing start_typing operand_typing step_typing open_.Here

pub path_typing : (ss : List Step) → typing (e.Path start.Here ss) ≡ record { shape = shape.Nodes; right = list_all (λ s. s) (map step_right ss) }
unfolding typing step_right start_right
path_typing ss =
    ap typing (sym (e.rolls-Path start.Here ss))
    ∙ fold-roll-Expr Typing Bool Arm Bool expr_typing start_typing operand_typing step_typing (open_.Path start.Here ss)
    ∙ ap (λ b. record { shape = shape.Nodes; right = b && list_all (λ s. s) (map step_right ss) }) here_right

-- a step is right where its predicates are
pub right_step : (a : Axis) (t : NodeTest) (ps : List Expr) → step_right (step a t ps) ≡ list_all (λ e. e.right) (map typing ps)
unfolding typing step_right
right_step a t ps = fold-roll-Step Typing Bool Arm Bool expr_typing start_typing operand_typing step_typing (record { axis = a; test = t; predicates = ps })
