-- Reading terms from the left, tier by tier. This is the order of the code's work, and serves its contracts; what a text reads as
-- is said by the rules of Grammar, of which it is proved that this finds exactly what they read.
use Rattle.std.specs.Prelude.{ℕ, zero, suc, Bool, true, false, if◌then◌else◌, ◌==◌, List, [], ◌∷◌, ◌++◌, length, Option, Some, None, pos}
use Rattle.doc_model.specs.declared.Axis.{Axis}
use Rattle.doc_model.specs.declared.Axis.TheVariants.{Child, Parent, OwnSelf, Attribute}
use Rattle.doc_model.specs.declared.NodeTest.{NodeTest}
use Rattle.doc_model.specs.declared.NodeTest.TheVariants as nt
use Rattle.xpath_parser.specs.declared.expression.Func.{Func}
use Rattle.xpath_parser.specs.declared.expression.Func.TheVariants as func
use Rattle.xpath_parser.specs.declared.expression.Expr.{Expr}
use Rattle.xpath_parser.specs.declared.expression.Expr.TheVariants as e
use Rattle.xpath_parser.specs.declared.expression.Start.{Start}
use Rattle.xpath_parser.specs.declared.expression.Start.TheVariants.{Here, Root, From}
use Rattle.xpath_parser.specs.declared.expression.Step.{Step}
use Rattle.xpath_parser.specs.declared.term.NodeType.{NodeType}
use Rattle.xpath_parser.specs.declared.term.NodeType.TheVariants as node_type
use Rattle.xpath_parser.specs.declared.term.Term.{Term}
use Rattle.xpath_parser.specs.declared.term.Term.TheVariants as t
use Rattle.xpath_parser.specs.Grammar.{tier_of, Operands, made, negated, filtered, step_of, any_below, test_of_type, is_joined}

-- what was read, and the terms after it
abbrev pub Outcome : Type 0 → Type 0
Outcome A = Option (A × List Term)

abbrev pub Parser : Type 0 → Type 0
Parser A = List Term → Outcome A

infixl 10 ◌>>=◌
abbrev pub ◌>>=◌ : {A B : Type 0} → Outcome A → (A × List Term → Outcome B) → Outcome B
None >>= f = None
(Some x) >>= f = f x

-- ---- the term that comes next

abbrev pub begins_primary : Term → Bool
begins_primary t.OpenRound = true
begins_primary (t.Function f) = true
begins_primary t.UnknownFunction = true
begins_primary (t.Literal s) = true
begins_primary (t.Number n) = true
begins_primary t.Fraction = true
begins_primary t.TooLarge = true
begins_primary t.Variable = true
begins_primary _ = false

abbrev pub begins_step : Term → Bool
begins_step t.Dot = true
begins_step t.DotDot = true
begins_step t.At = true
begins_step (t.Axis a) = true
begins_step t.AnyName = true
begins_step (t.Name n) = true
begins_step t.Prefixed = true
begins_step (t.NodeType n) = true
begins_step _ = false

abbrev pub peek : List Term → Option Term
peek [] = None
peek (w ∷ ws) = Some w

abbrev pub rest : List Term → List Term
rest [] = []
rest (w ∷ ws) = ws

-- a term that stands for itself, by its number
abbrev pub mark : Option Term → ℕ
mark (Some t.OpenRound) = 1
mark (Some t.CloseRound) = 2
mark (Some t.OpenSquare) = 3
mark (Some t.CloseSquare) = 4
mark (Some t.Comma) = 5
mark (Some t.Slash) = 6
mark (Some t.DoubleSlash) = 7
mark (Some t.DoubleColon) = 8
mark _ = 0

abbrev pub sees : ℕ → List Term → Bool
sees k ts = mark (peek ts) == k

-- the term that must come next
abbrev pub expect : ℕ → Parser (Unit {0})
expect k ts = if sees k ts then Some (tt, rest ts) else None

abbrev pub is_sign : Option Term → Bool
is_sign (Some t.Minus) = true
is_sign _ = false

abbrev pub begins_step_at : Option Term → Bool
begins_step_at None = false
begins_step_at (Some w) = begins_step w

abbrev pub begins_primary_at : Option Term → Bool
begins_primary_at None = false
begins_primary_at (Some w) = begins_primary w

-- only `processing-instruction` takes a literal
abbrev pub takes_literal : NodeType → Option Term → Bool
takes_literal node_type.Instruction (Some (t.Literal s)) = true
takes_literal _ _ = false

-- ---- node tests

abbrev pub after_literal : NodeType → List Term → List Term
after_literal n ts = if takes_literal n (peek ts) then rest ts else ts

abbrev pub of_type : NodeType → Parser NodeTest
of_type n ts = expect 1 ts >>= (λ c. expect 2 (after_literal n c.1) >>= (λ d. Some (test_of_type n, d.1)))

abbrev pub test_by : Option Term → Parser NodeTest
test_by (Some t.AnyName) ts = Some (nt.AnyName, rest ts)
test_by (Some (t.Name n)) ts = Some (nt.Name n, rest ts)
test_by (Some t.Prefixed) ts = Some (nt.AnyName, rest ts)
test_by (Some (t.NodeType n)) ts = of_type n (rest ts)
test_by _ ts = None

abbrev pub test : Parser NodeTest
test ts = test_by (peek ts) ts

-- ---- tiers

abbrev pub after_arg : Parser (List Expr) → Expr → Parser (List Expr)
after_arg more x ts = if sees 5 ts then more (rest ts) >>= (λ q. Some (x ∷ q.0, q.1)) else Some (x ∷ [], ts)

abbrev pub after_step : Parser (List Step) → Step → Parser (List Step)
after_step more s ts =
    if sees 6 ts then more (rest ts) >>= (λ q. Some (s ∷ q.0, q.1)) else
    if sees 7 ts then more (rest ts) >>= (λ q. Some (s ∷ any_below ∷ q.0, q.1)) else Some (s ∷ [], ts)

abbrev pub with_operator : ℕ → Parser Expr → Parser Operands → Option Term → Parser Operands
with_operator k sub more None ts = Some ([], ts)
with_operator k sub more (Some op) ts =
    if tier_of op == suc k then sub (rest ts) >>= (λ r. more r.1 >>= (λ q. Some ((op, r.0) ∷ q.0, q.1))) else Some ([], ts)

abbrev pub operators : ℕ → Parser Expr → ℕ → Parser Operands
operators k sub zero ts = Some ([], ts)
operators k sub (suc n) ts = with_operator k sub (operators k sub n) (peek ts) ts

abbrev pub joins : ℕ → Parser Expr → Parser Expr
joins k sub ts = sub ts >>= (λ r. operators k sub (length r.1) r.1 >>= (λ q. Some (made (suc k) r.0 q.0, q.1)))

abbrev pub signed : Parser Expr → ℕ → Parser (ℕ × Expr)
signed sub zero ts = None
signed sub (suc n) ts =
    if is_sign (peek ts) then signed sub n (rest ts) >>= (λ r. Some ((suc r.0.0, r.0.1), r.1)) else sub ts >>= (λ r. Some ((0, r.0), r.1))

abbrev pub signs : Parser Expr → Parser Expr
signs sub ts = signed sub (length ts) ts >>= (λ r. Some (negated r.0.0 r.0.1, r.1))

-- ---- primaries, steps and paths, by what reads an expression in brackets

module _ (inner : Parser Expr) where
  abbrev pub args : ℕ → Parser (List Expr)
  args zero ts = None
  args (suc n) ts = inner ts >>= (λ r. after_arg (args n) r.0 r.1)

  abbrev pub preds : ℕ → Parser (List Expr)
  preds zero ts = Some ([], ts)
  preds (suc n) ts =
      if sees 3 ts then inner (rest ts) >>= (λ r. expect 4 r.1 >>= (λ c. preds n c.1 >>= (λ q. Some (r.0 ∷ q.0, q.1)))) else Some ([], ts)

  abbrev pub some_args : Func → Parser Expr
  some_args f ts = args (length ts) ts >>= (λ r. expect 2 r.1 >>= (λ c. Some (e.Call f r.0, c.1)))

  abbrev pub call : Func → Parser Expr
  call f ts = if sees 2 ts then Some (e.Call f [], rest ts) else some_args f ts

  abbrev pub round : Parser Expr
  round ts = inner ts >>= (λ r. expect 2 r.1 >>= (λ c. Some (r.0, c.1)))

  abbrev pub function : Func → Parser Expr
  function f ts = expect 1 ts >>= (λ c. call f c.1)

  abbrev pub primary_by : Option Term → Parser Expr
  primary_by (Some (t.Literal s)) ts = Some (e.Literal s, rest ts)
  primary_by (Some (t.Number n)) ts = Some (e.Number n, rest ts)
  primary_by (Some t.Fraction) ts = Some (e.Number (pos 0), rest ts)
  primary_by (Some t.TooLarge) ts = Some (e.Number (pos 0), rest ts)
  primary_by (Some t.Variable) ts = Some (e.Literal [], rest ts)
  primary_by (Some t.OpenRound) ts = round (rest ts)
  primary_by (Some (t.Function f)) ts = function f (rest ts)
  primary_by (Some t.UnknownFunction) ts = function func.Last (rest ts)
  primary_by _ ts = None

  abbrev pub primary : Parser Expr
  primary ts = primary_by (peek ts) ts

  abbrev pub tested : Axis → Parser Step
  tested axis ts = test ts >>= (λ r. preds (length r.1) r.1 >>= (λ q. Some (step_of axis r.0 q.0, q.1)))

  abbrev pub step_by : Option Term → Parser Step
  step_by (Some t.Dot) ts = Some (step_of OwnSelf nt.Node [], rest ts)
  step_by (Some t.DotDot) ts = Some (step_of Parent nt.Node [], rest ts)
  step_by (Some t.At) ts = tested Attribute (rest ts)
  step_by (Some (t.Axis axis)) ts = expect 8 (rest ts) >>= (λ c. tested axis c.1)
  step_by _ ts = tested Child ts

  abbrev pub step : Parser Step
  step ts = step_by (peek ts) ts

  abbrev pub steps : ℕ → Parser (List Step)
  steps zero ts = None
  steps (suc n) ts = step ts >>= (λ r. after_step (steps n) r.0 r.1)

  abbrev pub relative : Start → List Step → Parser Expr
  relative start before ts = steps (length ts) ts >>= (λ r. Some (e.Path start (before ++ r.0), r.1))

  abbrev pub after_root : Parser Expr
  after_root ts = if begins_step_at (peek ts) then relative Root [] ts else Some (e.Path Root [], ts)

  abbrev pub after_filter : Expr → Parser Expr
  after_filter x ts =
      if sees 6 ts then relative (From x) [] (rest ts) else
      if sees 7 ts then relative (From x) (any_below ∷ []) (rest ts) else Some (x, ts)

  abbrev pub filtered_path : Parser Expr
  filtered_path ts = primary ts >>= (λ r. preds (length r.1) r.1 >>= (λ q. after_filter (filtered r.0 q.0) q.1))

  abbrev pub path : Parser Expr
  path ts =
      if sees 6 ts then after_root (rest ts) else
      if sees 7 ts then relative Root (any_below ∷ []) (rest ts) else
      if begins_primary_at (peek ts) then filtered_path ts else relative Here [] ts

  abbrev pub tier_by : Bool → ℕ → Parser Expr → Parser Expr
  tier_by true k sub = joins k sub
  tier_by false k sub = signs sub

  abbrev pub tier : ℕ → Parser Expr
  tier zero = path
  tier (suc k) = tier_by (is_joined (suc k)) k (tier k)

-- an expression whose brackets nest fewer times than the number
unfoldable pub expr : ℕ → Parser Expr
expr zero ts = None
expr (suc d) ts = tier (expr d) 8 ts
