-- The grammar of XPath 1.0, sections 2.1 to 3.7, as rules that cut lists of terms.
use Rattle.std.specs.Prelude.{◌≡◌, ℕ, zero, suc, Bool, true, false, if◌then◌else◌, ◌==◌, List, [], ◌∷◌, ◌++◌, map, ℤ, pos}
use Rattle.doc_model.specs.declared.Axis.{Axis}
use Rattle.doc_model.specs.declared.Axis.TheVariants.{Child, Parent, OwnSelf, DescendantOrSelf, Attribute}
use Rattle.doc_model.specs.declared.NodeTest.{NodeTest}
use Rattle.doc_model.specs.declared.NodeTest.TheVariants as nt
use Rattle.xpath_values.specs.declared.value.Compare.TheVariants as compare
use Rattle.xpath_parser.specs.declared.expression.Func.{Func}
use Rattle.xpath_parser.specs.declared.expression.Func.TheVariants as f
use Rattle.xpath_parser.specs.declared.expression.Infix.{Infix}
use Rattle.xpath_parser.specs.declared.expression.Infix.TheVariants as infix_of
use Rattle.xpath_parser.specs.declared.expression.Expr.{Expr}
use Rattle.xpath_parser.specs.declared.expression.Expr.TheVariants as e
use Rattle.xpath_parser.specs.declared.expression.Start.TheVariants.{Here, Root, From}
use Rattle.xpath_parser.specs.declared.expression.Operand.{Operand, roll-Operand}
use Rattle.xpath_parser.specs.declared.expression.Step.{Step, roll-Step}
use Rattle.xpath_parser.specs.declared.term.NodeType.{NodeType}
use Rattle.xpath_parser.specs.declared.term.NodeType.TheVariants as node_type
use Rattle.xpath_parser.specs.declared.term.Term.{Term}
use Rattle.xpath_parser.specs.declared.term.Term.TheVariants as t

-- How loosely an operator joins: 1 is `|`, 3 products, 4 sums, 5 orders, 6 equality, 7 `and`, 8 `or`; 2 has the signs.
-- What ends an expression is 9, and 0 is all else.
abbrev pub tier_of : Term → ℕ
tier_of t.Bar = 1
tier_of t.Times = 3
tier_of t.Mod = 3
tier_of t.Div = 3
tier_of t.Plus = 4
tier_of t.Minus = 4
tier_of t.Less = 5
tier_of t.LessEqual = 5
tier_of t.Greater = 5
tier_of t.GreaterEqual = 5
tier_of t.Equal = 6
tier_of t.Unequal = 6
tier_of t.And = 7
tier_of t.Or = 8
tier_of t.CloseRound = 9
tier_of t.CloseSquare = 9
tier_of t.Comma = 9
tier_of t.OpenRound = 0
tier_of t.OpenSquare = 0
tier_of t.Dot = 0
tier_of t.DotDot = 0
tier_of t.At = 0
tier_of t.DoubleColon = 0
tier_of t.Slash = 0
tier_of t.DoubleSlash = 0
tier_of t.AnyName = 0
tier_of (t.Name n) = 0
tier_of t.Prefixed = 0
tier_of (t.Axis a) = 0
tier_of (t.NodeType n) = 0
tier_of (t.Function g) = 0
tier_of t.UnknownFunction = 0
tier_of (t.Literal s) = 0
tier_of (t.Number n) = 0
tier_of t.Fraction = 0
tier_of t.TooLarge = 0
tier_of t.Variable = 0
tier_of t.Unknown = 0

-- The operator that a term of the tiers 3 to 6 stands for. `div` is refused, so nothing rests on what stands for it here, and
-- nothing on the other terms, which join no operands of these tiers.
abbrev pub operator : Term → Infix
operator t.Times = infix_of.Mul
operator t.Mod = infix_of.Mod
operator t.Plus = infix_of.Add
operator t.Minus = infix_of.Sub
operator t.Less = infix_of.Compare compare.Less
operator t.LessEqual = infix_of.Compare compare.LessEqual
operator t.Greater = infix_of.Compare compare.Greater
operator t.GreaterEqual = infix_of.Compare compare.GreaterEqual
operator t.Equal = infix_of.Compare compare.Equal
operator t.Unequal = infix_of.Compare compare.Unequal
operator t.OpenRound = infix_of.Mod
operator t.CloseRound = infix_of.Mod
operator t.OpenSquare = infix_of.Mod
operator t.CloseSquare = infix_of.Mod
operator t.Dot = infix_of.Mod
operator t.DotDot = infix_of.Mod
operator t.At = infix_of.Mod
operator t.Comma = infix_of.Mod
operator t.DoubleColon = infix_of.Mod
operator t.Slash = infix_of.Mod
operator t.DoubleSlash = infix_of.Mod
operator t.Bar = infix_of.Mod
operator t.Or = infix_of.Mod
operator t.And = infix_of.Mod
operator t.Div = infix_of.Mod
operator t.AnyName = infix_of.Mod
operator (t.Name n) = infix_of.Mod
operator t.Prefixed = infix_of.Mod
operator (t.Axis a) = infix_of.Mod
operator (t.NodeType n) = infix_of.Mod
operator (t.Function g) = infix_of.Mod
operator t.UnknownFunction = infix_of.Mod
operator (t.Literal s) = infix_of.Mod
operator (t.Number n) = infix_of.Mod
operator t.Fraction = infix_of.Mod
operator t.TooLarge = infix_of.Mod
operator t.Variable = infix_of.Mod
operator t.Unknown = infix_of.Mod

abbrev pub Operands : Type 0
Operands = List (Term × Expr)

abbrev pub operand : Term × Expr → Operand
operand p = roll-Operand (record { op = operator p.0; value = p.1 })

-- operands of one tier, joined from the left; a lone one stands for itself
unfoldable pub joined : ℕ → Expr → Term × Expr → Operands → Expr
joined k first p ps =
    if k == 1 then e.Union (first ∷ p.1 ∷ map (λ q. q.1) ps) else
    if k == 7 then e.And (first ∷ p.1 ∷ map (λ q. q.1) ps) else
    if k == 8 then e.Or (first ∷ p.1 ∷ map (λ q. q.1) ps) else
    e.Joined first (operand p ∷ map operand ps)

abbrev pub made : ℕ → Expr → Operands → Expr
made k first [] = first
made k first (p ∷ ps) = joined k first p ps

abbrev pub negated : ℕ → Expr → Expr
negated zero x = x
negated (suc n) x = e.Minus (suc n) x

abbrev pub filtered : Expr → List Expr → Expr
filtered x [] = x
filtered x (p ∷ ps) = e.Filter x (p ∷ ps)

abbrev pub step_of : Axis → NodeTest → List Expr → Step
step_of axis test ps = roll-Step (record { axis = axis; test = test; predicates = ps })

-- what `//` stands for: `descendant-or-self::node()`
abbrev pub any_below : Step
any_below = step_of DescendantOrSelf nt.Node []

abbrev pub test_of_type : NodeType → NodeTest
test_of_type node_type.Node = nt.Node
test_of_type node_type.Text = nt.Text
test_of_type node_type.Comment = nt.Comment
test_of_type node_type.Instruction = nt.Instruction

-- what the rules read
pub data Node : Type 0 where
  -- an expression of this tier, from a path at 0 to `or` at 8
  at : ℕ → Expr → Node
  -- the operators of the tier above, each with the operand of this tier after it
  rest : ℕ → Operands → Node
  -- signs before a union
  signed : ℕ → Expr → Node
  primary : Expr → Node
  -- one or more, with commas between
  args : List Expr → Node
  preds : List Expr → Node
  test : NodeTest → Node
  step : Step → Node
  steps : List Step → Node

-- the tiers whose operators stand between operands: all but that of the signs
abbrev pub is_joined : ℕ → Bool
is_joined k = if k == 2 then false else true

-- Terms that are refused in every expression stand for something here, so that an ill-formed text is told from them.
pub data Reads : List Term → Node → Type 0 where
  -- LocationPath, sections 2 and 2.5
  path_here : {ts : List Term} {ss : List Step} → Reads ts (steps ss) → Reads ts (at 0 (e.Path Here ss))
  path_root : Reads (t.Slash ∷ []) (at 0 (e.Path Root []))
  path_from_root : {ts : List Term} {ss : List Step} → Reads ts (steps ss) → Reads (t.Slash ∷ ts) (at 0 (e.Path Root ss))
  path_below_root : {ts : List Term} {ss : List Step} → Reads ts (steps ss) → Reads (t.DoubleSlash ∷ ts) (at 0 (e.Path Root (any_below ∷ ss)))
  -- PathExpr and FilterExpr, section 3.3
  filter : {ts a b : List Term} {x : Expr} {ps : List Expr} → Reads a (primary x) → Reads b (preds ps) → ts ≡ a ++ b → Reads ts (at 0 (filtered x ps))
  filter_path : {ts a b c : List Term} {x : Expr} {ps : List Expr} {ss : List Step} → Reads a (primary x) → Reads b (preds ps) → Reads c (steps ss) → ts ≡ a ++ (b ++ t.Slash ∷ c) → Reads ts (at 0 (e.Path (From (filtered x ps)) ss))
  filter_below : {ts a b c : List Term} {x : Expr} {ps : List Expr} {ss : List Step} → Reads a (primary x) → Reads b (preds ps) → Reads c (steps ss) → ts ≡ a ++ (b ++ t.DoubleSlash ∷ c) → Reads ts (at 0 (e.Path (From (filtered x ps)) (any_below ∷ ss)))
  -- UnaryExpr, section 3.5
  signs : {ts : List Term} {n : ℕ} {x : Expr} → Reads ts (signed n x) → Reads ts (at 2 (negated n x))
  no_sign : {ts : List Term} {x : Expr} → Reads ts (at 1 x) → Reads ts (signed 0 x)
  sign : {ts : List Term} {n : ℕ} {x : Expr} → Reads ts (signed n x) → Reads (t.Minus ∷ ts) (signed (suc n) x)
  -- the levels from UnionExpr to OrExpr, sections 3.3 to 3.5
  tier : {ts a b : List Term} {k : ℕ} {x : Expr} {ps : Operands} → is_joined (suc k) ≡ true → Reads a (at k x) → Reads b (rest k ps) → ts ≡ a ++ b → Reads ts (at (suc k) (made (suc k) x ps))
  rest_end : {k : ℕ} → Reads [] (rest k [])
  rest_more : {ts a b : List Term} {k : ℕ} {op : Term} {x : Expr} {ps : Operands} → tier_of op ≡ suc k → Reads a (at k x) → Reads b (rest k ps) → ts ≡ a ++ b → Reads (op ∷ ts) (rest k ((op, x) ∷ ps))
  -- PrimaryExpr and FunctionCall, sections 3.1 and 3.2
  literal : {s : List ℕ} → Reads (t.Literal s ∷ []) (primary (e.Literal s))
  number : {n : ℤ} → Reads (t.Number n ∷ []) (primary (e.Number n))
  fraction : Reads (t.Fraction ∷ []) (primary (e.Number (pos 0)))
  too_large : Reads (t.TooLarge ∷ []) (primary (e.Number (pos 0)))
  variable : Reads (t.Variable ∷ []) (primary (e.Literal []))
  round : {ts : List Term} {x : Expr} → Reads ts (at 8 x) → Reads (t.OpenRound ∷ (ts ++ t.CloseRound ∷ [])) (primary x)
  call_none : {g : Func} → Reads (t.Function g ∷ t.OpenRound ∷ t.CloseRound ∷ []) (primary (e.Call g []))
  call : {ts : List Term} {g : Func} {xs : List Expr} → Reads ts (args xs) → Reads (t.Function g ∷ t.OpenRound ∷ (ts ++ t.CloseRound ∷ [])) (primary (e.Call g xs))
  unknown_none : Reads (t.UnknownFunction ∷ t.OpenRound ∷ t.CloseRound ∷ []) (primary (e.Call f.Last []))
  unknown : {ts : List Term} {xs : List Expr} → Reads ts (args xs) → Reads (t.UnknownFunction ∷ t.OpenRound ∷ (ts ++ t.CloseRound ∷ [])) (primary (e.Call f.Last xs))
  args_one : {ts : List Term} {x : Expr} → Reads ts (at 8 x) → Reads ts (args (x ∷ []))
  args_more : {ts a b : List Term} {x : Expr} {xs : List Expr} → Reads a (at 8 x) → Reads b (args xs) → ts ≡ a ++ t.Comma ∷ b → Reads ts (args (x ∷ xs))
  -- Predicate, section 2.4
  preds_end : Reads [] (preds [])
  preds_more : {ts a b : List Term} {x : Expr} {xs : List Expr} → Reads a (at 8 x) → Reads b (preds xs) → ts ≡ a ++ t.CloseSquare ∷ b → Reads (t.OpenSquare ∷ ts) (preds (x ∷ xs))
  -- NodeTest, section 2.3
  any_name : Reads (t.AnyName ∷ []) (test nt.AnyName)
  name : {n : List ℕ} → Reads (t.Name n ∷ []) (test (nt.Name n))
  prefixed : Reads (t.Prefixed ∷ []) (test nt.AnyName)
  of_type : {n : NodeType} → Reads (t.NodeType n ∷ t.OpenRound ∷ t.CloseRound ∷ []) (test (test_of_type n))
  instruction_named : {s : List ℕ} → Reads (t.NodeType node_type.Instruction ∷ t.OpenRound ∷ t.Literal s ∷ t.CloseRound ∷ []) (test nt.Instruction)
  -- Step and its abbreviations, sections 2.1 and 2.5
  step_child : {ts a b : List Term} {n : NodeTest} {ps : List Expr} → Reads a (test n) → Reads b (preds ps) → ts ≡ a ++ b → Reads ts (step (step_of Child n ps))
  step_attribute : {ts a b : List Term} {n : NodeTest} {ps : List Expr} → Reads a (test n) → Reads b (preds ps) → ts ≡ a ++ b → Reads (t.At ∷ ts) (step (step_of Attribute n ps))
  step_axis : {ts a b : List Term} {axis : Axis} {n : NodeTest} {ps : List Expr} → Reads a (test n) → Reads b (preds ps) → ts ≡ a ++ b → Reads (t.Axis axis ∷ t.DoubleColon ∷ ts) (step (step_of axis n ps))
  step_self : Reads (t.Dot ∷ []) (step (step_of OwnSelf nt.Node []))
  step_parent : Reads (t.DotDot ∷ []) (step (step_of Parent nt.Node []))
  -- RelativeLocationPath, section 2
  steps_one : {ts : List Term} {s : Step} → Reads ts (step s) → Reads ts (steps (s ∷ []))
  steps_more : {ts a b : List Term} {s : Step} {ss : List Step} → Reads a (step s) → Reads b (steps ss) → ts ≡ a ++ t.Slash ∷ b → Reads ts (steps (s ∷ ss))
  steps_below : {ts a b : List Term} {s : Step} {ss : List Step} → Reads a (step s) → Reads b (steps ss) → ts ≡ a ++ t.DoubleSlash ∷ b → Reads ts (steps (s ∷ any_below ∷ ss))

-- the terms read as this expression
abbrev pub ReadsWhole : List Term → Expr → Type 0
ReadsWhole ts x = Reads ts (at 8 x)
