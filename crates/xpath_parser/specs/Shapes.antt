-- The shape of an expression, by its form, and whether its parts have the shapes that they must have.
use Rattle.std.specs.Prelude.{ℕ, Bool, true, false, ◌&&◌, ◌==◌, nat_le, List, [], ◌∷◌, length}
use Rattle.std.specs.List.{list_all}
use Rattle.xpath_values.specs.declared.value.Shape.{Shape}
use Rattle.xpath_values.specs.declared.value.Shape.TheVariants as shape
use Rattle.xpath_parser.specs.declared.expression.Func.{Func}
use Rattle.xpath_parser.specs.declared.expression.Func.TheVariants as f
use Rattle.xpath_parser.specs.declared.expression.Infix.{Infix}
use Rattle.xpath_parser.specs.declared.expression.Infix.TheVariants as op
use Rattle.xpath_parser.specs.declared.expression.Expr.{Expr}
use Rattle.xpath_parser.specs.declared.expression.Expr.TheOpen as open_
use Rattle.xpath_parser.specs.declared.expression.Expr.TheFolds.{fold-Expr}

-- what an expression is, and whether all in it is typed right
pub record Typing : Type 0 where
  pub shape : Shape
  pub right : Bool

abbrev pub is_nodes : Shape → Bool
is_nodes shape.Nodes = true
is_nodes shape.Str = false
is_nodes shape.Num = false
is_nodes shape.Bool = false

abbrev pub infix_shape : Infix → Shape
infix_shape (op.Compare c) = shape.Bool
infix_shape op.Add = shape.Num
infix_shape op.Sub = shape.Num
infix_shape op.Mul = shape.Num
infix_shape op.Mod = shape.Num

abbrev pub joined_shape : Shape → List (Infix × Typing) → Shape
joined_shape s [] = s
joined_shape s (p ∷ ps) = infix_shape p.0

-- what a function gives, section 4
abbrev pub function_shape : Func → Shape
function_shape f.Last = shape.Num
function_shape f.Position = shape.Num
function_shape f.Count = shape.Num
function_shape f.Id = shape.Nodes
function_shape f.LocalName = shape.Str
function_shape f.NamespaceUri = shape.Str
function_shape f.Name = shape.Str
function_shape f.Str = shape.Str
function_shape f.Concat = shape.Str
function_shape f.StartsWith = shape.Bool
function_shape f.Contains = shape.Bool
function_shape f.SubstringBefore = shape.Str
function_shape f.SubstringAfter = shape.Str
function_shape f.Substring = shape.Str
function_shape f.StringLength = shape.Num
function_shape f.NormalizeSpace = shape.Str
function_shape f.Translate = shape.Str
function_shape f.Boolean = shape.Bool
function_shape f.Not = shape.Bool
function_shape f.True = shape.Bool
function_shape f.False = shape.Bool
function_shape f.Lang = shape.Bool
function_shape f.Number = shape.Num
function_shape f.Sum = shape.Num
function_shape f.Floor = shape.Num
function_shape f.Ceiling = shape.Num
function_shape f.Round = shape.Num
function_shape (f.Stored kind) = shape.Bool

-- it takes so many arguments
abbrev pub takes : Func → ℕ → Bool
takes f.Last n = n == 0
takes f.Position n = n == 0
takes f.Count n = n == 1
takes f.Id n = n == 1
takes f.LocalName n = nat_le n 1
takes f.NamespaceUri n = nat_le n 1
takes f.Name n = nat_le n 1
takes f.Str n = nat_le n 1
takes f.Concat n = nat_le 2 n
takes f.StartsWith n = n == 2
takes f.Contains n = n == 2
takes f.SubstringBefore n = n == 2
takes f.SubstringAfter n = n == 2
takes f.Substring n = nat_le 2 n && nat_le n 3
takes f.StringLength n = nat_le n 1
takes f.NormalizeSpace n = nat_le n 1
takes f.Translate n = n == 3
takes f.Boolean n = n == 1
takes f.Not n = n == 1
takes f.True n = n == 0
takes f.False n = n == 0
takes f.Lang n = n == 1
takes f.Number n = nat_le n 1
takes f.Sum n = n == 1
takes f.Floor n = n == 1
takes f.Ceiling n = n == 1
takes f.Round n = n == 1
takes (f.Stored kind) n = n == 2

-- its arguments must be nodes
abbrev pub wants_nodes : Func → Bool
wants_nodes f.Count = true
wants_nodes f.LocalName = true
wants_nodes f.NamespaceUri = true
wants_nodes f.Name = true
wants_nodes f.Sum = true
wants_nodes f.Last = false
wants_nodes f.Position = false
wants_nodes f.Id = false
wants_nodes f.Str = false
wants_nodes f.Concat = false
wants_nodes f.StartsWith = false
wants_nodes f.Contains = false
wants_nodes f.SubstringBefore = false
wants_nodes f.SubstringAfter = false
wants_nodes f.Substring = false
wants_nodes f.StringLength = false
wants_nodes f.NormalizeSpace = false
wants_nodes f.Translate = false
wants_nodes f.Boolean = false
wants_nodes f.Not = false
wants_nodes f.True = false
wants_nodes f.False = false
wants_nodes f.Lang = false
wants_nodes f.Number = false
wants_nodes f.Floor = false
wants_nodes f.Ceiling = false
wants_nodes f.Round = false
wants_nodes (f.Stored kind) = false

abbrev pub if_wanted : Bool → Shape → Bool
if_wanted true s = is_nodes s
if_wanted false s = true

abbrev pub expr_typing : open_.Expr-F Typing Bool (Infix × Typing) Bool → Typing
expr_typing (open_.Or es) = record { shape = shape.Bool; right = list_all (λ e. e.right) es }
expr_typing (open_.And es) = record { shape = shape.Bool; right = list_all (λ e. e.right) es }
expr_typing (open_.Joined e ps) = record { shape = joined_shape e.shape ps; right = e.right && list_all (λ p. p.1.right) ps }
expr_typing (open_.Minus n e) = record { shape = shape.Num; right = e.right }
expr_typing (open_.Union es) = record { shape = shape.Nodes; right = list_all (λ e. e.right && is_nodes e.shape) es }
expr_typing (open_.Path start steps) = record { shape = shape.Nodes; right = start && list_all (λ s. s) steps }
expr_typing (open_.Filter e ps) = record { shape = e.shape; right = e.right && (is_nodes e.shape && list_all (λ p. p.right) ps) }
expr_typing (open_.Literal s) = record { shape = shape.Str; right = true }
expr_typing (open_.Number n) = record { shape = shape.Num; right = true }
expr_typing (open_.Call g es) = record {
  shape = function_shape g;
  right = takes g (length es) && list_all (λ e. e.right && if_wanted (wants_nodes g) e.shape) es;
}

abbrev pub start_typing : open_.Start-F Typing Bool (Infix × Typing) Bool → Bool
start_typing open_.Here = true
start_typing open_.Root = true
start_typing (open_.From e) = e.right && is_nodes e.shape

abbrev pub operand_typing : open_.Operand-F Typing Bool (Infix × Typing) Bool → Infix × Typing
operand_typing o = (o.op, o.value)

abbrev pub step_typing : open_.Step-F Typing Bool (Infix × Typing) Bool → Bool
step_typing s = list_all (λ e. e.right) s.predicates

unfoldable pub typing : Expr → Typing
typing = fold-Expr Typing Bool (Infix × Typing) Bool expr_typing start_typing operand_typing step_typing

-- the shape of an expression: nodes, a string, a number or a boolean
abbrev pub shape_of : Expr → Shape
shape_of x = (typing x).shape

-- each function has its number of arguments, and nodes stand wherever they must
abbrev pub is_well_typed : Expr → Bool
is_well_typed x = (typing x).right
