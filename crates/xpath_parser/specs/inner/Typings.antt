-- What serves the contracts of the code that finds shapes.
use Rattle.std.specs.Prelude.{Bool, ◌&&◌}
use Rattle.xpath_parser.specs.declared.expression.Expr.{Expr}
use Rattle.xpath_parser.specs.declared.expression.Expr.TheFolds.{fold-Start, fold-Operand, fold-Step}
use Rattle.xpath_parser.specs.declared.expression.Infix.{Infix}
use Rattle.xpath_parser.specs.declared.expression.Operand.{Operand}
use Rattle.xpath_parser.specs.declared.expression.Start.{Start}
use Rattle.xpath_parser.specs.declared.expression.Step.{Step}
use Rattle.xpath_parser.specs.Shapes.{Typing, typing, if_wanted, expr_typing, start_typing, operand_typing, step_typing}

-- where a path starts is typed right
unfoldable pub start_right : Start → Bool
start_right = fold-Start Typing Bool (Infix × Typing) Bool expr_typing start_typing operand_typing step_typing

unfoldable pub operand_typed : Operand → Infix × Typing
operand_typed = fold-Operand Typing Bool (Infix × Typing) Bool expr_typing start_typing operand_typing step_typing

-- the predicates of a step are typed right
unfoldable pub step_right : Step → Bool
step_right = fold-Step Typing Bool (Infix × Typing) Bool expr_typing start_typing operand_typing step_typing

abbrev pub operand_right : Operand → Bool
operand_right o = (operand_typed o).1.right

-- the expression is typed right, and nodes where they are wanted
abbrev pub fits : Bool → Expr → Bool
fits wanted x = (typing x).right && if_wanted wanted (typing x).shape
