-- What the parts of an expression ask, where its form is known.
use Rattle.std.proofs.Common.{◌≡◌, sym, subst, ℕ, ◌<◌, List, length, get_or}
use Rattle.std.specs.List.{All}
use Rattle.test_registry.specs.Names.{Known}
use Rattle.xpath_parser.specs.declared.expression.Expr.{Expr}
use Rattle.xpath_parser.specs.declared.expression.Expr.TheVariants as e
use Rattle.xpath_parser.specs.declared.expression.Func.{Func}
use Rattle.xpath_parser.specs.declared.expression.Operand.{Operand}
use Rattle.xpath_parser.specs.declared.expression.Start.{Start}
use Rattle.xpath_parser.specs.declared.expression.Step.{Step}
use Rattle.xpath_parser.specs.Asking.{stored_kind, IsStored, AsksOnly, StepAsks, OperandAsks, StartAsks}
use Rattle.xpath_parser.proofs.Asking.{asks_or, asks_and, asks_union, asks_joined, asks_minus, asks_filter, asks_path, asks_call}

-- what holds of each holds of one
pub at_one : {A : Type 0} (P : A → Type 0) (xs : List A) (i : ℕ) (x : A) → x ≡ get_or xs i x → i < length xs → All P xs → P x
at_one P xs i x is h all = subst P (sym is) (all i x h)

module _ (tests : Known) (x : Expr) (h : AsksOnly tests x) where
  pub or_asks : (es xs : List Expr) → x ≡ e.Or es → xs ≡ es → All (AsksOnly tests) xs
  or_asks es xs is same = subst (All (AsksOnly tests)) (sym same) (asks_or tests es (subst (AsksOnly tests) is h))

  pub and_asks : (es xs : List Expr) → x ≡ e.And es → xs ≡ es → All (AsksOnly tests) xs
  and_asks es xs is same = subst (All (AsksOnly tests)) (sym same) (asks_and tests es (subst (AsksOnly tests) is h))

  pub union_asks : (es xs : List Expr) → x ≡ e.Union es → xs ≡ es → All (AsksOnly tests) xs
  union_asks es xs is same = subst (All (AsksOnly tests)) (sym same) (asks_union tests es (subst (AsksOnly tests) is h))

  pub first_asks : (y z : Expr) (os : List Operand) → x ≡ e.Joined y os → z ≡ y → AsksOnly tests z
  first_asks y z os is same = subst (AsksOnly tests) (sym same) (asks_joined tests y os (subst (AsksOnly tests) is h)).0

  pub operands_ask : (y : Expr) (os ps : List Operand) → x ≡ e.Joined y os → ps ≡ os → All (OperandAsks tests) ps
  operands_ask y os ps is same = subst (All (OperandAsks tests)) (sym same) (asks_joined tests y os (subst (AsksOnly tests) is h)).1

  pub minus_asks : (n : ℕ) (y z : Expr) → x ≡ e.Minus n y → z ≡ y → AsksOnly tests z
  minus_asks n y z is same = subst (AsksOnly tests) (sym same) (asks_minus tests n y (subst (AsksOnly tests) is h))

  pub start_asks : (s : Start) (ss : List Step) → x ≡ e.Path s ss → StartAsks tests s
  start_asks s ss is = (asks_path tests s ss (subst (AsksOnly tests) is h)).0

  pub steps_ask : (s : Start) (ss ts : List Step) → x ≡ e.Path s ss → ts ≡ ss → All (StepAsks tests) ts
  steps_ask s ss ts is same = subst (All (StepAsks tests)) (sym same) (asks_path tests s ss (subst (AsksOnly tests) is h)).1

  pub filtered_asks : (y z : Expr) (ps : List Expr) → x ≡ e.Filter y ps → z ≡ y → AsksOnly tests z
  filtered_asks y z ps is same = subst (AsksOnly tests) (sym same) (asks_filter tests y ps (subst (AsksOnly tests) is h)).0

  pub filters_ask : (y : Expr) (ps qs : List Expr) → x ≡ e.Filter y ps → qs ≡ ps → All (AsksOnly tests) qs
  filters_ask y ps qs is same = subst (All (AsksOnly tests)) (sym same) (asks_filter tests y ps (subst (AsksOnly tests) is h)).1

  pub called_asks : (f : Func) (es : List Expr) → x ≡ e.Call f es → IsStored tests (stored_kind f)
  called_asks f es is = (asks_call tests f es (subst (AsksOnly tests) is h)).0

  pub args_ask : (f : Func) (es xs : List Expr) → x ≡ e.Call f es → xs ≡ es → All (AsksOnly tests) xs
  args_ask f es xs is same = subst (All (AsksOnly tests)) (sym same) (asks_call tests f es (subst (AsksOnly tests) is h)).1
