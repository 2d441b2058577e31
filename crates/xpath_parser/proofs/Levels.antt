-- Levels are cut at their operators outside brackets.
use Rattle.std.proofs.Common.{◌≡◌, eqb, refl, sym, ◌∙◌, ap, ℕ, zero, suc, ◌+◌, ◌*◌, ◌<◌, ◌≤◌, Bool, true, false, ◌&&◌, ◌||◌, not, cond, List, [], ◌∷◌, ◌++◌, map, arith, append_assoc, append-nil}
use Rattle.std.proofs.lemmas.Bool.Decides.{nat_tests}
use Rattle.xpath_parser.specs.declared.expression.Expr.{Expr}
use Rattle.xpath_parser.specs.declared.term.NodeType.TheVariants as node_type
use Rattle.xpath_parser.specs.declared.term.Term.{Term}
use Rattle.xpath_parser.specs.declared.term.Term.TheVariants as t
use Rattle.xpath_parser.specs.Grammar as g
use Rattle.xpath_parser.specs.Grammar.{tier_of, Node, Reads, Operands}
use Rattle.xpath_parser.specs.Levels.{is_minus, with_operator_of, operators_of}

-- ---- one term

-- a term of a closer tier, or in brackets
low : (j d : ℕ) (b : Bool) (w : Term) (ws : List Term) → tier_of w < j + 9 * d → with_operator_of j d b w ws ≡ ws
low j zero b w ws l = let differs : eqb (tier_of w) j ≡ false = grind (arith, nat_tests) in rw differs refl
low j (suc d) b w ws l = refl

operator_next : (op : Term) (k j d : ℕ) (b : Bool) (ts : List Term) → tier_of op ≡ suc k → k < 8 → operators_of j d b (op ∷ ts) ≡ with_operator_of j d b op (operators_of j d false ts)
operator_next t.Bar k j d b ts o l = refl
operator_next t.Times k j d b ts o l = refl
operator_next t.Mod k j d b ts o l = refl
operator_next t.Div k j d b ts o l = refl
operator_next t.Plus k j d b ts o l = refl
operator_next t.Minus k j d b ts o l = refl
operator_next t.Less k j d b ts o l = refl
operator_next t.LessEqual k j d b ts o l = refl
operator_next t.Greater k j d b ts o l = refl
operator_next t.GreaterEqual k j d b ts o l = refl
operator_next t.Equal k j d b ts o l = refl
operator_next t.Unequal k j d b ts o l = refl
operator_next t.And k j d b ts o l = refl
operator_next t.Or k j d b ts o l = refl
operator_next _ k j d b ts o l = absurd (omega arith)

-- a sign is no operator
sign_next : (j d : ℕ) (ts : List Term) → operators_of j d false (t.Minus ∷ ts) ≡ operators_of j d false ts
sign_next j zero ts = by (eqb 4 j) refl
  where
    by : (same : Bool) → eqb 4 j ≡ same → operators_of j zero false (t.Minus ∷ ts) ≡ operators_of j zero false ts
    by true h = rw h refl
    by false h = rw h refl
sign_next j (suc d) ts = refl

cond_append : (c : Bool) (w : Term) (xs ys : List Term) → cond c (w ∷ (xs ++ ys)) (xs ++ ys) ≡ cond c (w ∷ xs) xs ++ ys
cond_append true w xs ys = refl
cond_append false w xs ys = refl

append_one : (j d : ℕ) (b : Bool) (w : Term) (xs ys : List Term) → with_operator_of j d b w (xs ++ ys) ≡ with_operator_of j d b w xs ++ ys
append_one j zero b w xs ys = cond_append (eqb (tier_of w) j && (b || not (is_minus w))) w xs ys
append_one j (suc d) b w xs ys = refl

-- ---- along the rules

-- those of the operators that are of tier j, outside brackets
abbrev chosen : ℕ → ℕ → Operands → List Term
chosen j d [] = []
chosen j d (p ∷ ps) = with_operator_of j d true p.0 (chosen j d ps)

-- of tier j or in brackets, before other terms: at an operand's place, after an operand, at either
abbrev Front : ℕ → List Term → Type 0
Front k ts = (j d : ℕ) (more : List Term) → j ≤ 8 → k < j + 9 * d → operators_of j d false (ts ++ more) ≡ operators_of j d true more

abbrev After : List Term → Type 0
After ts = (j d : ℕ) (more : List Term) → j ≤ 8 → 0 < j + 9 * d → operators_of j d true (ts ++ more) ≡ operators_of j d true more

abbrev Either : List Term → Type 0
Either ts = (j d : ℕ) (b : Bool) (more : List Term) → j ≤ 8 → 0 < j + 9 * d → operators_of j d b (ts ++ more) ≡ operators_of j d true more

abbrev Cut : List Term → Node → Type 0
Cut ts (g.at k x) = k ≤ 8 → Front k ts
Cut ts (g.rest k ps) = k < 8 → (j d : ℕ) (more : List Term) → j ≤ 8 → k < j + 9 * d → operators_of j d true (ts ++ more) ≡ chosen j d ps ++ operators_of j d true more
Cut ts (g.signed n x) = Front 1 ts
Cut ts (g.primary x) = Either ts
Cut ts (g.args xs) = (j d : ℕ) (more : List Term) → j ≤ 8 → operators_of j (suc d) false (ts ++ more) ≡ operators_of j (suc d) true more
Cut ts (g.preds xs) = After ts
Cut ts (g.test n) = Either ts
Cut ts (g.step s) = Either ts
Cut ts (g.steps ss) = Either ts

-- a term of no tier that ends an operand
one_term : (w : Term) → tier_of w ≡ 0 → ((j d : ℕ) (b : Bool) (more : List Term) → operators_of j d b (w ∷ more) ≡ with_operator_of j d b w (operators_of j d true more)) → Either (w ∷ [])
one_term w o next = λ j d b more l s. next j d b more ∙ low j d b w (operators_of j d true more) (omega (arith, o, s))

either_both : (ts a b : List Term) → ts ≡ a ++ b → Either a → After b → Either ts
either_both ts a b is p q = λ j d c more l s. ap (λ v. operators_of j d c (v ++ more)) is ∙ ap (operators_of j d c) (append_assoc a b more) ∙ p j d c (b ++ more) l s ∙ q j d more l s

after_both : (ts a b : List Term) → ts ≡ a ++ b → After a → After b → After ts
after_both ts a b is p q = λ j d more l s. ap (λ v. operators_of j d true (v ++ more)) is ∙ ap (operators_of j d true) (append_assoc a b more) ∙ p j d (b ++ more) l s ∙ q j d more l s

-- a term of no tier before what begins no sign
then_either : (w : Term) (ts : List Term) (v : Bool) → tier_of w ≡ 0 → ((j d : ℕ) (b : Bool) (more : List Term) → operators_of j d b (w ∷ more) ≡ with_operator_of j d b w (operators_of j d v more)) → Either ts → Either (w ∷ ts)
then_either w ts v o next p = λ j d b more l s. next j d b (ts ++ more) ∙ low j d b w (operators_of j d v (ts ++ more)) (omega (arith, o, s)) ∙ p j d v more l s

as_after : (ts : List Term) → Either ts → After ts
as_after ts p = λ j d more l s. p j d true more l s

as_front : (ts : List Term) → Either ts → Front 0 ts
as_front ts p = λ j d more l s. p j d false more l s

-- in brackets
round_cut : (ts : List Term) → ((j d : ℕ) (more : List Term) → j ≤ 8 → operators_of j (suc d) false (ts ++ more) ≡ operators_of j (suc d) true more) → Either (t.OpenRound ∷ (ts ++ t.CloseRound ∷ []))
round_cut ts p = λ j d b more l s. ap (operators_of j (suc d) false) (append_assoc ts (t.CloseRound ∷ []) more) ∙ p j d (t.CloseRound ∷ more) l

inside : (ts : List Term) → Front 8 ts → (j d : ℕ) (more : List Term) → j ≤ 8 → operators_of j (suc d) false (ts ++ more) ≡ operators_of j (suc d) true more
inside ts p j d more l = p j (suc d) more l (omega arith)

square_cut : (ts a b : List Term) → ts ≡ a ++ t.CloseSquare ∷ b → Front 8 a → After b → After (t.OpenSquare ∷ ts)
square_cut ts a b is p q = λ j d more l s.
    ap (λ v. operators_of j (suc d) false (v ++ more)) is ∙ ap (operators_of j (suc d) false) (append_assoc a (t.CloseSquare ∷ b) more)
    ∙ inside a p j d (t.CloseSquare ∷ (b ++ more)) l ∙ q j d more l s

args_cut : (ts a b : List Term) → ts ≡ a ++ t.Comma ∷ b → Front 8 a → ((j d : ℕ) (more : List Term) → j ≤ 8 → operators_of j (suc d) false (b ++ more) ≡ operators_of j (suc d) true more)
    → (j d : ℕ) (more : List Term) → j ≤ 8 → operators_of j (suc d) false (ts ++ more) ≡ operators_of j (suc d) true more
args_cut ts a b is p q j d more l =
    ap (λ v. operators_of j (suc d) false (v ++ more)) is ∙ ap (operators_of j (suc d) false) (append_assoc a (t.Comma ∷ b) more)
    ∙ inside a p j d (t.Comma ∷ (b ++ more)) l ∙ q j d more l

called : (w : Term) → tier_of w ≡ 0 → ((j d : ℕ) (b : Bool) (more : List Term) → operators_of j d b (w ∷ more) ≡ with_operator_of j d b w (operators_of j d true more)) → (ts : List Term)
    → ((j d : ℕ) (more : List Term) → j ≤ 8 → operators_of j (suc d) false (ts ++ more) ≡ operators_of j (suc d) true more) → Either (w ∷ t.OpenRound ∷ (ts ++ t.CloseRound ∷ []))
called w o next ts p = then_either w (t.OpenRound ∷ (ts ++ t.CloseRound ∷ [])) true o next (round_cut ts p)

tier_cut : (ts a b : List Term) (k : ℕ) (ps : Operands) → ts ≡ a ++ b → Front k a
    → ((j d : ℕ) (more : List Term) → j ≤ 8 → k < j + 9 * d → operators_of j d true (b ++ more) ≡ chosen j d ps ++ operators_of j d true more)
    → (j d : ℕ) (more : List Term) → j ≤ 8 → k < j + 9 * d → operators_of j d false (ts ++ more) ≡ chosen j d ps ++ operators_of j d true more
tier_cut ts a b k ps is p q j d more l s =
    ap (λ v. operators_of j d false (v ++ more)) is ∙ ap (operators_of j d false) (append_assoc a b more) ∙ p j d (b ++ more) l s ∙ q j d more l s

-- none of the operators of a tier is of a looser one
none_chosen : {ts : List Term} {k : ℕ} {ps : Operands} → Reads ts (g.rest k ps) → (j d : ℕ) → suc k < j + 9 * d → chosen j d ps ≡ []
none_chosen g.rest_end j d s = refl
none_chosen (g.rest_more {op = op} {ps = ps} o r q is) j d s = ap (with_operator_of j d true op) (none_chosen q j d s) ∙ low j d true op [] (omega (arith, o, s))

-- and all are of their own
all_chosen : {ts : List Term} {k : ℕ} {ps : Operands} → Reads ts (g.rest k ps) → chosen (suc k) 0 ps ≡ map (λ p. p.0) ps
all_chosen g.rest_end = refl
all_chosen (g.rest_more {k = k} {op = op} {ps = ps} o r q is) =
    let same : eqb (tier_of op) (suc k) ≡ true = grind (arith, nat_tests, o) in
    ap (with_operator_of (suc k) 0 true op) (all_chosen q) ∙ rw same refl

cut : {ts : List Term} {node : Node} → Reads ts node → Cut ts node
cut (g.path_here {ts = ts} r) = λ k. as_front ts (cut r)
cut g.path_root = λ k j d more l s. low j d false t.Slash (operators_of j d true more) s
cut (g.path_from_root {ts = ts} r) = λ k. as_front (t.Slash ∷ ts) (then_either t.Slash ts true refl (λ j d b more. refl) (cut r))
cut (g.path_below_root {ts = ts} r) = λ k. as_front (t.DoubleSlash ∷ ts) (then_either t.DoubleSlash ts false refl (λ j d b more. refl) (cut r))
cut (g.filter {ts = ts} {a = a} {b = b} r q is) = λ k. as_front ts (either_both ts a b is (cut r) (cut q))
cut (g.filter_path {ts = ts} {a = a} {b = b} {c = c} r q u is) = λ k. as_front ts (either_both ts a (b ++ t.Slash ∷ c) is (cut r)
    (after_both (b ++ t.Slash ∷ c) b (t.Slash ∷ c) refl (cut q) (as_after (t.Slash ∷ c) (then_either t.Slash c true refl (λ j d b more. refl) (cut u)))))
cut (g.filter_below {ts = ts} {a = a} {b = b} {c = c} r q u is) = λ k. as_front ts (either_both ts a (b ++ t.DoubleSlash ∷ c) is (cut r)
    (after_both (b ++ t.DoubleSlash ∷ c) b (t.DoubleSlash ∷ c) refl (cut q) (as_after (t.DoubleSlash ∷ c) (then_either t.DoubleSlash c false refl (λ j d b more. refl) (cut u)))))
cut (g.signs r) = λ k j d more l s. cut r j d more l (omega (arith, s))
cut (g.no_sign r) = cut r (omega arith)
cut (g.sign {ts = ts} r) = λ j d more l s. sign_next j d (ts ++ more) ∙ cut r j d more l s
cut (g.tier {ts = ts} {a = a} {b = b} {k = k} {ps = ps} n r q is) = λ m j d more l s.
    tier_cut ts a b k ps is (cut r (omega (arith, m))) (cut q (omega (arith, m))) j d more l (omega (arith, s)) ∙ ap (λ xs. xs ++ operators_of j d true more) (none_chosen q j d s)
cut g.rest_end = λ k j d more l s. refl
cut (g.rest_more {ts = ts} {a = a} {b = b} {k = k} {op = op} {ps = ps} o r q is) = λ m j d more l s.
    operator_next op k j d true (ts ++ more) o m
    ∙ ap (with_operator_of j d true op) (tier_cut ts a b k ps is (cut r (omega (arith, m))) (cut q m) j d more l s)
    ∙ append_one j d true op (chosen j d ps) (operators_of j d true more)
cut (g.literal {s = x}) = one_term (t.Literal x) refl (λ j d b more. refl)
cut (g.number {n = n}) = one_term (t.Number n) refl (λ j d b more. refl)
cut g.fraction = one_term t.Fraction refl (λ j d b more. refl)
cut g.too_large = one_term t.TooLarge refl (λ j d b more. refl)
cut g.variable = one_term t.Variable refl (λ j d b more. refl)
cut (g.round {ts = ts} r) = round_cut ts (inside ts (cut r (omega arith)))
cut (g.call_none {g = f}) = λ j d b more l s. low j d b (t.Function f) (operators_of j d true more) s
cut (g.call {ts = ts} {g = f} r) = called (t.Function f) refl (λ j d b more. refl) ts (cut r)
cut g.unknown_none = λ j d b more l s. low j d b t.UnknownFunction (operators_of j d true more) s
cut (g.unknown {ts = ts} r) = called t.UnknownFunction refl (λ j d b more. refl) ts (cut r)
cut (g.args_one {ts = ts} r) = inside ts (cut r (omega arith))
cut (g.args_more {ts = ts} {a = a} {b = b} r q is) = args_cut ts a b is (cut r (omega arith)) (cut q)
cut g.preds_end = λ j d more l s. refl
cut (g.preds_more {ts = ts} {a = a} {b = b} r q is) = square_cut ts a b is (cut r (omega arith)) (cut q)
cut g.any_name = one_term t.AnyName refl (λ j d b more. refl)
cut (g.name {n = n}) = one_term (t.Name n) refl (λ j d b more. refl)
cut g.prefixed = one_term t.Prefixed refl (λ j d b more. refl)
cut (g.of_type {n = n}) = λ j d b more l s. low j d b (t.NodeType n) (operators_of j d true more) s
cut (g.instruction_named {s = x}) = λ j d b more l s. low j d b (t.NodeType node_type.Instruction) (operators_of j d true more) s
cut (g.step_child {ts = ts} {a = a} {b = b} r q is) = either_both ts a b is (cut r) (cut q)
cut (g.step_attribute {ts = ts} {a = a} {b = b} r q is) = then_either t.At ts false refl (λ j d b more. refl) (either_both ts a b is (cut r) (cut q))
cut (g.step_axis {ts = ts} {a = a} {b = b} {axis = axis} r q is) =
    then_either (t.Axis axis) (t.DoubleColon ∷ ts) true refl (λ j d b more. refl) (then_either t.DoubleColon ts false refl (λ j d b more. refl) (either_both ts a b is (cut r) (cut q)))
cut g.step_self = one_term t.Dot refl (λ j d b more. refl)
cut g.step_parent = one_term t.DotDot refl (λ j d b more. refl)
cut (g.steps_one r) = cut r
cut (g.steps_more {ts = ts} {a = a} {b = b} r q is) = either_both ts a (t.Slash ∷ b) is (cut r) (as_after (t.Slash ∷ b) (then_either t.Slash b true refl (λ j d b more. refl) (cut q)))
cut (g.steps_below {ts = ts} {a = a} {b = b} r q is) = either_both ts a (t.DoubleSlash ∷ b) is (cut r) (as_after (t.DoubleSlash ∷ b) (then_either t.DoubleSlash b false refl (λ j d b more. refl) (cut q)))

-- ---- whole levels

pub levels_cut : (k : ℕ) (a b : List Term) (x : Expr) (ps : Operands) → k < 8 → Reads a (g.at k x) → Reads b (g.rest k ps) → operators_of (suc k) 0 false (a ++ b) ≡ map (λ p. p.0) ps
levels_cut k a b x ps l r q =
    ap (operators_of (suc k) 0 false) (sym (append-nil (a ++ b)))
    ∙ tier_cut (a ++ b) a b k ps refl (cut r (omega arith)) (cut q l) (suc k) 0 [] (omega arith) (omega arith)
    ∙ append-nil (chosen (suc k) 0 ps) ∙ all_chosen q

pub none_looser : (k : ℕ) (ts : List Term) (x : Expr) → k ≤ 8 → Reads ts (g.at k x) → (j : ℕ) → k < j → j ≤ 8 → operators_of j 0 false ts ≡ []
none_looser k ts x l r j more most = ap (operators_of j 0 false) (sym (append-nil ts)) ∙ cut r l j 0 [] most (omega arith)
