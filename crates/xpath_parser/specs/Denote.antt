-- What an expression means at a row, a position and a size.
use Rattle.std.specs.Prelude.{ℕ, suc, ◌%◌, Bool, false, if◌then◌else◌, ◌==◌, List, [], ◌∷◌, filter, map, length, pos}
use Rattle.std.specs.List.{list_any, list_all}
use Rattle.std.specs.Ordering.{int_eq}
use Rattle.doc_model.specs.Document.{Document, rows}
use Rattle.doc_model.specs.Axes.{axis_list}
pub use Rattle.doc_model.specs.RowLists.{has}
use Rattle.xpath_values.specs.declared.value.XNum.{XNum}
use Rattle.xpath_values.specs.declared.value.XNum.TheVariants.{Whole, NaN}
use Rattle.xpath_values.specs.declared.value.Value.{Value}
use Rattle.xpath_values.specs.declared.value.Value.TheVariants.{Nodes, Num, Str, Bool as Truth}
use Rattle.xpath_values.specs.Numbers.{whole, num_add, num_sub, num_mul, num_rem, num_neg}
use Rattle.xpath_parser.specs.declared.expression.Infix.{Infix}
use Rattle.xpath_parser.specs.declared.expression.Infix.TheVariants as op
use Rattle.xpath_parser.specs.declared.expression.Expr.{Expr}
use Rattle.xpath_parser.specs.declared.expression.Expr.TheOpen as open_
use Rattle.xpath_parser.specs.declared.expression.Expr.TheFolds.{fold-Expr, fold-Step, fold-Start, fold-Operand}
use Rattle.xpath_parser.specs.declared.expression.Step.{Step}
use Rattle.xpath_parser.specs.declared.expression.Start.{Start}
use Rattle.xpath_parser.specs.declared.expression.Operand.{Operand, out-Operand}
use Rattle.xpath_parser.specs.Conversions.{rows_of, truth_of, number_of, fits}
use Rattle.xpath_parser.specs.Functions.{Context, called}

abbrev pub Meaning : Type 0
Meaning = Context → Value

-- the rows from one row, in the axis' order
abbrev pub Walk : Type 0
Walk = ℕ → List ℕ

-- a number is compared with the position, and anything else is a truth
abbrev pub keeps : ℕ → Value → Bool
keeps at (Num (Whole n)) = int_eq n (pos at)
keeps at (Num NaN) = false
keeps at (Nodes xs) = truth_of (Nodes xs)
keeps at (Str s) = truth_of (Str s)
keeps at (Truth b) = b

-- the rows at which the predicate holds, of those whose places begin with `at`
abbrev pub kept_from : Meaning → ℕ → ℕ → List ℕ → List ℕ
kept_from p size at [] = []
kept_from p size at (x ∷ xs) =
    if keeps at (p (record { row = x; position = at; size = size })) then x ∷ kept_from p size (suc at) xs else kept_from p size (suc at) xs

-- each predicate in turn, on the rows that the ones before it keep
abbrev pub kept : List Meaning → List ℕ → List ℕ
kept [] xs = xs
kept (p ∷ ps) xs = kept ps (kept_from p (length xs) 1 xs)

-- so many signs
abbrev pub signed : ℕ → XNum → XNum
signed n a = if n % 2 == 0 then a else num_neg a

module _ (doc : Document) where
  abbrev pub applied : Infix → Value → Value → Value
  applied (op.Compare c) a b = Truth (fits doc c a b)
  applied op.Add a b = Num (num_add (number_of doc a) (number_of doc b))
  applied op.Sub a b = Num (num_sub (number_of doc a) (number_of doc b))
  applied op.Mul a b = Num (num_mul (number_of doc a) (number_of doc b))
  applied op.Mod a b = Num (num_rem (number_of doc a) (number_of doc b))

  abbrev pub joined : Value → List (Infix × Value) → Value
  joined v [] = v
  joined v (p ∷ ps) = joined (applied p.0 v p.1) ps

  -- the rows in the list of one of the places, upwards and each once
  unfoldable pub rows_in : {A : Type 0} → List A → (A → List ℕ) → List ℕ
  rows_in xs list_at = filter (λ y. list_any (λ x. has y (list_at x)) xs) (rows doc)

  -- each step in turn, from all rows of the path before it
  abbrev pub path : List ℕ → List Walk → List ℕ
  path xs [] = xs
  path xs (w ∷ ws) = path (rows_in xs w) ws

  -- ---- one level of each type, with the meanings of its parts

  abbrev pub Arm : Type 0
  Arm = Infix × Meaning

  abbrev pub FromStart : Type 0
  FromStart = Context → List ℕ

  abbrev pub expr_step : open_.Expr-F Meaning FromStart Arm Walk → Meaning
  expr_step (open_.Or es) c = Truth (list_any (λ e. truth_of (e c)) es)
  expr_step (open_.And es) c = Truth (list_all (λ e. truth_of (e c)) es)
  expr_step (open_.Joined e ps) c = joined (e c) (map (λ p. (p.0, p.1 c)) ps)
  expr_step (open_.Minus n e) c = Num (signed n (number_of doc (e c)))
  expr_step (open_.Union es) c = Nodes (rows_in es (λ e. rows_of (e c)))
  expr_step (open_.Path start ws) c = Nodes (path (start c) ws)
  expr_step (open_.Filter e ps) c = Nodes (kept ps (rows_of (e c)))
  expr_step (open_.Literal s) c = Str s
  expr_step (open_.Number n) c = Num (whole n)
  expr_step (open_.Call g es) c = called doc g (map (λ e. e c) es) c

  abbrev pub start_step : open_.Start-F Meaning FromStart Arm Walk → FromStart
  start_step open_.Here c = c.row ∷ []
  start_step open_.Root c = 0 ∷ []
  start_step (open_.From e) c = rows_of (e c)

  abbrev pub operand_step : open_.Operand-F Meaning FromStart Arm Walk → Arm
  operand_step o = (o.op, o.value)

  abbrev pub walk_step : open_.Step-F Meaning FromStart Arm Walk → Walk
  walk_step s x = kept s.predicates (axis_list doc x s.axis s.test)

  unfoldable pub denote : Expr → Meaning
  denote = fold-Expr Meaning FromStart Arm Walk expr_step start_step operand_step walk_step

  unfoldable pub walk_of : Step → Walk
  walk_of = fold-Step Meaning FromStart Arm Walk expr_step start_step operand_step walk_step

  unfoldable pub start_of : Start → FromStart
  start_of = fold-Start Meaning FromStart Arm Walk expr_step start_step operand_step walk_step

  unfoldable pub arm_of : Operand → Arm
  arm_of = fold-Operand Meaning FromStart Arm Walk expr_step start_step operand_step walk_step

  -- an operator and its right side's value
  abbrev pub arm_at : Operand → Context → Infix × Value
  arm_at o c = ((out-Operand o).op, denote (out-Operand o).value c)
