-- An expression that a text reads as gives rows exactly where its shape is nodes.
use Rattle.std.proofs.Common.{◌≡◌, ℕ, zero, suc, ℤ, Bool, true, false, List, [], ◌∷◌, map, refl, sym, ◌∙◌, ap}
use Rattle.std.specs.Coded.{Coded-set, coded_bool}
use Rattle.std.specs.Prelude.{◌&&◌, if◌then◌else◌, ◌==◌}
use Rattle.std.specs.List.{list_all}
use Rattle.std.proofs.Math.Logic.{∥∥₁_elim}
use Rattle.doc_model.specs.Document.{Document}
use Rattle.xpath_values.specs.declared.value.Value.{Value}
use Rattle.xpath_parser.specs.declared.expression.Func.{Func}
use Rattle.xpath_parser.specs.declared.expression.Func.TheVariants as f
use Rattle.xpath_parser.specs.declared.expression.Infix.{Infix}
use Rattle.xpath_parser.specs.declared.expression.Infix.TheVariants as op
use Rattle.xpath_parser.specs.declared.expression.Expr.{Expr}
use Rattle.xpath_parser.specs.declared.expression.Expr.TheVariants as e
use Rattle.xpath_parser.specs.declared.expression.Expr.TheOpen as open_
use Rattle.xpath_parser.specs.declared.expression.Expr.TheFolds.{fold-roll-Expr}
use Rattle.xpath_parser.specs.declared.expression.Operand.{Operand}
use Rattle.xpath_parser.specs.declared.expression.Start.{Start}
use Rattle.xpath_parser.specs.declared.expression.Step.{Step}
use Rattle.xpath_parser.specs.declared.term.Term.{Term}
use Rattle.xpath_parser.specs.declared.typed.Typed.{Typed}
use Rattle.xpath_parser.specs.Typed.{expression}
use Rattle.xpath_parser.specs.Shapes.{Typing, typing, shape_of, is_well_typed, is_nodes, infix_shape, function_shape, expr_typing, start_typing, operand_typing, step_typing}
use Rattle.xpath_parser.specs.Functions.{Context, called}
use Rattle.xpath_parser.specs.Denote as d
use Rattle.xpath_parser.specs.Denote.{denote, applied, arm_at}
use Rattle.xpath_parser.specs.Grammar.{Node, Reads, at, rest, signed, primary, args, preds, test, step, steps, Operands, operand, joined, made, negated, filtered}
use Rattle.xpath_parser.specs.Grammar as grammar
use Rattle.xpath_parser.proofs.Equations.{at_or, at_and, at_joined, at_minus, at_union, at_path, at_filter, at_literal, at_number, at_call}
use Rattle.query_chain.specs.inner.Values.{is_rows}

GivesRows : Document → Expr → Type 0
GivesRows doc x = (c : Context) → is_well_typed x ≡ true → is_rows (denote doc x c) ≡ is_nodes (shape_of x)

-- ---- the typing of each form

module _ where
  or_typing : (es : List Expr) → is_nodes (shape_of (e.Or es)) ≡ false
  unfolding typing
  or_typing es = ap (λ x. is_nodes (shape_of x)) (sym (e.rolls-Or es)) ∙ ap (λ (t : Typing). is_nodes t.shape) (fold-roll-Expr Typing Bool (Infix × Typing) Bool expr_typing start_typing operand_typing step_typing (open_.Or es))

  and_typing : (es : List Expr) → is_nodes (shape_of (e.And es)) ≡ false
  unfolding typing
  and_typing es = ap (λ x. is_nodes (shape_of x)) (sym (e.rolls-And es)) ∙ ap (λ (t : Typing). is_nodes t.shape) (fold-roll-Expr Typing Bool (Infix × Typing) Bool expr_typing start_typing operand_typing step_typing (open_.And es))

  infix_nodes : (i : Infix) → is_nodes (infix_shape i) ≡ false
  infix_nodes (op.Compare c) = refl
  infix_nodes op.Add = refl
  infix_nodes op.Sub = refl
  infix_nodes op.Mul = refl
  infix_nodes op.Mod = refl

  joined_typing : (x : Expr) (o : Operand) (os : List Operand) → is_nodes (shape_of (e.Joined x (o ∷ os))) ≡ false
  unfolding typing
  joined_typing x o os = ap (λ x. is_nodes (shape_of x)) (sym (e.rolls-Joined x (o ∷ os)))
      ∙ ap (λ (t : Typing). is_nodes t.shape) (fold-roll-Expr Typing Bool (Infix × Typing) Bool expr_typing start_typing operand_typing step_typing (open_.Joined x (o ∷ os))) ∙ infix_nodes _

  minus_typing : (n : ℕ) (x : Expr) → is_nodes (shape_of (e.Minus n x)) ≡ false
  unfolding typing
  minus_typing n x = ap (λ x. is_nodes (shape_of x)) (sym (e.rolls-Minus n x)) ∙ ap (λ (t : Typing). is_nodes t.shape) (fold-roll-Expr Typing Bool (Infix × Typing) Bool expr_typing start_typing operand_typing step_typing (open_.Minus n x))

  union_typing : (es : List Expr) → is_nodes (shape_of (e.Union es)) ≡ true
  unfolding typing
  union_typing es = ap (λ x. is_nodes (shape_of x)) (sym (e.rolls-Union es)) ∙ ap (λ (t : Typing). is_nodes t.shape) (fold-roll-Expr Typing Bool (Infix × Typing) Bool expr_typing start_typing operand_typing step_typing (open_.Union es))

  path_typing : (s : Start) (ss : List Step) → is_nodes (shape_of (e.Path s ss)) ≡ true
  unfolding typing
  path_typing s ss = ap (λ x. is_nodes (shape_of x)) (sym (e.rolls-Path s ss)) ∙ ap (λ (t : Typing). is_nodes t.shape) (fold-roll-Expr Typing Bool (Infix × Typing) Bool expr_typing start_typing operand_typing step_typing (open_.Path s ss))

  literal_typing : (s : List ℕ) → is_nodes (shape_of (e.Literal s)) ≡ false
  unfolding typing
  literal_typing s = ap (λ x. is_nodes (shape_of x)) (sym (e.rolls-Literal s)) ∙ ap (λ (t : Typing). is_nodes t.shape) (fold-roll-Expr Typing Bool (Infix × Typing) Bool expr_typing start_typing operand_typing step_typing (open_.Literal s))

  number_typing : (n : ℤ) → is_nodes (shape_of (e.Number n)) ≡ false
  unfolding typing
  number_typing n = ap (λ x. is_nodes (shape_of x)) (sym (e.rolls-Number n)) ∙ ap (λ (t : Typing). is_nodes t.shape) (fold-roll-Expr Typing Bool (Infix × Typing) Bool expr_typing start_typing operand_typing step_typing (open_.Number n))

  call_typing : (g : Func) (es : List Expr) → is_nodes (shape_of (e.Call g es)) ≡ is_nodes (function_shape g)
  unfolding typing
  call_typing g es = ap (λ x. is_nodes (shape_of x)) (sym (e.rolls-Call g es)) ∙ ap (λ (t : Typing). is_nodes t.shape) (fold-roll-Expr Typing Bool (Infix × Typing) Bool expr_typing start_typing operand_typing step_typing (open_.Call g es))

  filter_typing : (x : Expr) (ps : List Expr) → typing (e.Filter x ps) ≡ record { shape = (typing x).shape; right = (typing x).right && (is_nodes (typing x).shape && list_all (λ t. t.right) (map typing ps)) }
  unfolding typing
  filter_typing x ps = ap typing (sym (e.rolls-Filter x ps)) ∙ fold-roll-Expr Typing Bool (Infix × Typing) Bool expr_typing start_typing operand_typing step_typing (open_.Filter x ps)

and_middle : (a b c : Bool) → (a && (b && c)) ≡ true → b ≡ true
and_middle true true c h = refl
and_middle true false c h = cc
and_middle false b c h = cc

-- ---- the rows of each form

module _ (doc : Document) where
  applied_rows : (i : Infix) (a b : Value) → is_rows (applied doc i a b) ≡ false
  applied_rows (op.Compare c) a b = refl
  applied_rows op.Add a b = refl
  applied_rows op.Sub a b = refl
  applied_rows op.Mul a b = refl
  applied_rows op.Mod a b = refl

  joined_value : (v : Value) (p : Infix × Value) (ps : List (Infix × Value)) → is_rows (d.joined doc v (p ∷ ps)) ≡ false
  joined_value v p [] = applied_rows p.0 v p.1
  joined_value v p (q ∷ ps) = joined_value (applied doc p.0 v p.1) q ps

  called_rows : (g : Func) (vs : List Value) (c : Context) → is_rows (called doc g vs c) ≡ is_nodes (function_shape g)
  called_rows f.Id vs c = refl
  called_rows g vs c = refl

  path_rows : (s : Start) (ss : List Step) → GivesRows doc (e.Path s ss)
  unfolding GivesRows
  path_rows s ss c h = ap is_rows (at_path doc s ss c) ∙ sym (path_typing s ss)

  call_rows : (g : Func) (es : List Expr) → GivesRows doc (e.Call g es)
  unfolding GivesRows
  call_rows g es c h = ap is_rows (at_call doc g es c) ∙ called_rows g (map (λ x. denote doc x c) es) c ∙ sym (call_typing g es)

  literal_rows : (s : List ℕ) → GivesRows doc (e.Literal s)
  unfolding GivesRows
  literal_rows s c h = ap is_rows (at_literal doc s c) ∙ sym (literal_typing s)

  number_rows : (n : ℤ) → GivesRows doc (e.Number n)
  unfolding GivesRows
  number_rows n c h = ap is_rows (at_number doc n c) ∙ sym (number_typing n)

  filter_rows : (x : Expr) (ps : List Expr) → GivesRows doc x → GivesRows doc (filtered x ps)
  unfolding GivesRows
  filter_rows x [] given = given
  filter_rows x (p ∷ ps) given = λ c h.
      let form = filter_typing x (p ∷ ps) in
      ap is_rows (at_filter doc x (p ∷ ps) c)
      ∙ sym (ap (λ (t : Typing). is_nodes t.shape) form ∙ and_middle (typing x).right (is_nodes (typing x).shape) _ (sym (ap (λ (t : Typing). t.right) form) ∙ h))

  negated_rows : (n : ℕ) (x : Expr) → GivesRows doc x → GivesRows doc (negated n x)
  unfolding GivesRows
  negated_rows zero x given = given
  negated_rows (suc n) x given = λ c h. ap is_rows (at_minus doc (suc n) x c) ∙ sym (minus_typing (suc n) x)

  joined_rows : (k : ℕ) (x : Expr) (p : Term × Expr) (ps : Operands) → GivesRows doc (joined k x p ps)
  unfolding GivesRows joined
  joined_rows k x p ps c = chosen (k == 1) (k == 7) (k == 8) where
    chosen : (i j l : Bool) →
        is_well_typed (if i then e.Union (x ∷ p.1 ∷ map (λ q. q.1) ps) else if j then e.And (x ∷ p.1 ∷ map (λ q. q.1) ps) else if l then e.Or (x ∷ p.1 ∷ map (λ q. q.1) ps) else e.Joined x (operand p ∷ map operand ps)) ≡ true →
        is_rows (denote doc (if i then e.Union (x ∷ p.1 ∷ map (λ q. q.1) ps) else if j then e.And (x ∷ p.1 ∷ map (λ q. q.1) ps) else if l then e.Or (x ∷ p.1 ∷ map (λ q. q.1) ps) else e.Joined x (operand p ∷ map operand ps)) c)
        ≡ is_nodes (shape_of (if i then e.Union (x ∷ p.1 ∷ map (λ q. q.1) ps) else if j then e.And (x ∷ p.1 ∷ map (λ q. q.1) ps) else if l then e.Or (x ∷ p.1 ∷ map (λ q. q.1) ps) else e.Joined x (operand p ∷ map operand ps)))
    chosen true j l h = ap is_rows (at_union doc _ c) ∙ sym (union_typing _)
    chosen false true l h = ap is_rows (at_and doc _ c) ∙ sym (and_typing _)
    chosen false false true h = ap is_rows (at_or doc _ c) ∙ sym (or_typing _)
    chosen false false false h = ap is_rows (at_joined doc x (operand p ∷ map operand ps) c) ∙ joined_value (denote doc x c) (arm_at doc (operand p) c) (map (λ o. arm_at doc o c) (map operand ps)) ∙ sym (joined_typing x (operand p) (map operand ps))

  made_rows : (k : ℕ) (x : Expr) (ps : Operands) → GivesRows doc x → GivesRows doc (made k x ps)
  made_rows k x [] given = given
  made_rows k x (p ∷ ps) given = joined_rows k x p ps

  -- what holds of each expression that the grammar reads
  abbrev NodeRows : Node → Type 0
  NodeRows (at k x) = GivesRows doc x
  NodeRows (rest k ps) = Unit {0}
  NodeRows (signed n x) = GivesRows doc x
  NodeRows (primary x) = GivesRows doc x
  NodeRows (args xs) = Unit {0}
  NodeRows (preds xs) = Unit {0}
  NodeRows (test n) = Unit {0}
  NodeRows (step s) = Unit {0}
  NodeRows (steps ss) = Unit {0}

  read_rows : {ts : List Term} {n : Node} → Reads ts n → NodeRows n
  read_rows (grammar.path_here r) = path_rows _ _
  read_rows grammar.path_root = path_rows _ _
  read_rows (grammar.path_from_root r) = path_rows _ _
  read_rows (grammar.path_below_root r) = path_rows _ _
  read_rows (grammar.filter {x = x} {ps = ps} r q j) = filter_rows x ps (read_rows r)
  read_rows (grammar.filter_path r q s j) = path_rows _ _
  read_rows (grammar.filter_below r q s j) = path_rows _ _
  read_rows (grammar.signs {n = n} {x = x} r) = negated_rows n x (read_rows r)
  read_rows (grammar.no_sign r) = read_rows r
  read_rows (grammar.sign r) = read_rows r
  read_rows (grammar.tier {k = k} {x = x} {ps = ps} i r q j) = made_rows (suc k) x ps (read_rows r)
  read_rows grammar.literal = literal_rows _
  read_rows grammar.number = number_rows _
  read_rows grammar.fraction = number_rows _
  read_rows grammar.too_large = number_rows _
  read_rows grammar.variable = literal_rows _
  read_rows (grammar.round r) = read_rows r
  read_rows grammar.call_none = call_rows _ _
  read_rows (grammar.call r) = call_rows _ _
  read_rows grammar.unknown_none = call_rows _ _
  read_rows (grammar.unknown r) = call_rows _ _
  read_rows r = tt

-- an expression gives rows exactly where its shape is nodes
pub typed_rows : (doc : Document) (t : Typed) (c : Context) → is_rows (denote doc (expression t) c) ≡ is_nodes (shape_of (expression t))
unfolding GivesRows
typed_rows doc t c = ∥∥₁_elim t.readable (Coded-set coded_bool _ _) (λ r. read_rows doc r.reads.reads c r.reads.typed)
