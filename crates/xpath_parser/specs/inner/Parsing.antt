-- What serves the contracts of the code that reads terms from the left.
use Rattle.std.specs.Prelude.{◌≡◌, ◌≢◌, ℕ, Bool, false, ◌==◌, ◌+◌, if◌then◌else◌, List, ◌++◌, map, Option, Some, None, Result, Ok, Err}
use Rattle.std.specs.declared.alloc.Global.{Global}
use denote.Ref.{MutBor}
use Rattle.xpath_parser.specs.declared.expression.Expr.{Expr}
use Rattle.xpath_parser.specs.declared.expression.Expr.TheVariants as e
use Rattle.xpath_parser.specs.declared.refusal.Refusal.{Refusal}
use Rattle.xpath_parser.specs.declared.refusal.Refusal.TheVariants.{Memory}
use Rattle.xpath_parser.specs.declared.term.Term.{Term}
use Rattle.xpath_parser.specs.Grammar.{tier_of, made, Operands}
use Rattle.xpath_parser.specs.Reader.{Outcome, ◌>>=◌, expr}

-- what a rule ensures: the outcome, unless memory is wanting
abbrev pub Gives : {A : Type 0} → Outcome A → Result A Refusal → List Term → Type 0
Gives outcome (Ok a) new = outcome ≡ Some (a, new)
Gives outcome (Err e) new = e ≢ Memory → outcome ≡ None

-- A function value that reads an expression whose brackets nest fewer times than the number.
pub record Nests (depth : ℕ) (pre : Global → MutBor (List Term) → ℕ → Type 0)
    (post : Global → MutBor (List Term) → ℕ → Result Expr Refusal → MutBor (List Term) → Type 0) : Type 0 where
  pub callable : (alloc : Global) (old : MutBor (List Term)) → pre alloc old depth
  pub reads : (alloc : Global) (old new : MutBor (List Term)) (r : Result Expr Refusal) → post alloc old depth r new → Gives (expr depth old.now) r new.now

-- what was found already stands before what will be found
abbrev pub with_front : {A : Type 0} → List A → Outcome (List A) → Outcome (List A)
with_front front r = r >>= (λ q. Some (front ++ q.0, q.1))

-- each of what will be found, as another thing
abbrev pub mapped : {A B : Type 0} → (A → B) → Outcome (List A) → Outcome (List B)
mapped f r = r >>= (λ q. Some (map f q.0, q.1))

-- the term is an operator of the tier
abbrev pub joins_at : ℕ → Option Term → Bool
joins_at k None = false
joins_at k (Some w) = tier_of w == k

-- what the operators make of the first operand
abbrev pub made_of : ℕ → Expr → Outcome Operands → Outcome Expr
made_of k x o = o >>= (λ q. Some (made (k + 1) x q.0, q.1))

-- the operands of a tier whose operators are all alike
abbrev pub listed : ℕ → List Expr → Expr
listed k xs = if k == 1 then e.Union xs else if k == 7 then e.And xs else e.Or xs
