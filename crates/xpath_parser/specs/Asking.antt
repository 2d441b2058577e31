-- The stored tests that an expression asks.
use Rattle.std.specs.Prelude.{◌≡◌, List, [], ◌∷◌, ◌++◌, All, Option, Some, None}
use Rattle.std.specs.List.{flat_map}
use Rattle.test_registry.specs.declared.kinds.TestKind.{TestKind}
use Rattle.test_registry.specs.Kinds.{HasKind}
use Rattle.test_registry.specs.Names.{Known}
use Rattle.xpath_parser.specs.declared.expression.Func.{Func}
use Rattle.xpath_parser.specs.declared.expression.Func.TheVariants as f
use Rattle.xpath_parser.specs.declared.expression.Expr.{Expr}
use Rattle.xpath_parser.specs.declared.expression.Expr.TheOpen as open_
use Rattle.xpath_parser.specs.declared.expression.Expr.TheFolds.{fold-Expr}
use Rattle.xpath_parser.specs.declared.expression.Operand.{Operand, out-Operand}
use Rattle.xpath_parser.specs.declared.expression.Start.{Start}
use Rattle.xpath_parser.specs.declared.expression.Start.TheVariants.{From}
use Rattle.xpath_parser.specs.declared.expression.Step.{Step, out-Step}

-- the kind of a stored test; the functions of XPath 1.0 have none
abbrev pub stored_kind : Func → Option TestKind
stored_kind (f.Stored kind) = Some kind
stored_kind _ = None

-- a test of the kind is stored, if there is a kind
abbrev pub IsStored : Known → Option TestKind → Type 0
IsStored tests (Some kind) = HasKind kind tests
IsStored tests None = Unit {0}

abbrev pub Kinds : Type 0
Kinds = List TestKind

abbrev pub all_kinds : List Kinds → Kinds
all_kinds ks = flat_map (λ k. k) ks

abbrev pub kind_list : Option TestKind → Kinds
kind_list (Some kind) = kind ∷ []
kind_list None = []

abbrev pub func_kinds : Func → Kinds
func_kinds g = kind_list (stored_kind g)

-- ---- one level of each type, with the kinds of its parts

abbrev pub expr_kinds : open_.Expr-F Kinds Kinds Kinds Kinds → Kinds
expr_kinds (open_.Or es) = all_kinds es
expr_kinds (open_.And es) = all_kinds es
expr_kinds (open_.Joined e os) = e ++ all_kinds os
expr_kinds (open_.Minus n e) = e
expr_kinds (open_.Union es) = all_kinds es
expr_kinds (open_.Path start steps) = start ++ all_kinds steps
expr_kinds (open_.Filter e ps) = e ++ all_kinds ps
expr_kinds (open_.Literal s) = []
expr_kinds (open_.Number n) = []
expr_kinds (open_.Call g es) = func_kinds g ++ all_kinds es

abbrev pub start_kinds : open_.Start-F Kinds Kinds Kinds Kinds → Kinds
start_kinds open_.Here = []
start_kinds open_.Root = []
start_kinds (open_.From e) = e

abbrev pub operand_kinds : open_.Operand-F Kinds Kinds Kinds Kinds → Kinds
operand_kinds o = o.value

abbrev pub step_kinds : open_.Step-F Kinds Kinds Kinds Kinds → Kinds
step_kinds s = all_kinds s.predicates

-- the kinds of the stored tests that an expression calls, in the order of its text
unfoldable pub stored_kinds : Expr → Kinds
stored_kinds = fold-Expr Kinds Kinds Kinds Kinds expr_kinds start_kinds operand_kinds step_kinds

-- Each stored test that the expression calls is there. It is a record, so that no tactic opens it.
pub record AsksOnly (tests : Known) (x : Expr) : Type 0 where
  pub stored : All (λ kind. HasKind kind tests) (stored_kinds x)

-- the expression calls no stored test
abbrev pub AsksNone : Expr → Type 0
AsksNone x = stored_kinds x ≡ []

-- so does each predicate of a step, the right side of an operand, and the expression where a path starts, if there is one
abbrev pub StepAsks : Known → Step → Type 0
StepAsks tests s = All (AsksOnly tests) (out-Step s).predicates

abbrev pub OperandAsks : Known → Operand → Type 0
OperandAsks tests o = AsksOnly tests (out-Operand o).value

abbrev pub StartAsks : Known → Start → Type 0
StartAsks tests start = (x : Expr) → start ≡ From x → AsksOnly tests x
