-- The expression of a `Typed`.
use Rattle.xpath_parser.specs.declared.expression.Expr.{Expr}
use Rattle.xpath_parser.specs.declared.typed.Typed.{Typed}

abbrev pub expression : Typed → Expr
expression t = t.expr
