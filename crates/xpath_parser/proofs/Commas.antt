-- How many commas stand in what the rules read, outside of brackets.
use Rattle.std.proofs.Common.{◌≡◌, refl, ◌∙◌, ap, ℕ, zero, suc, ◌+◌, ◌-◌, ◌<◌, ◌≤◌, List, [], ◌∷◌, ◌++◌, length, arith, append_assoc}
use Rattle.xpath_parser.specs.declared.expression.Expr.{Expr}
use Rattle.xpath_parser.specs.declared.term.Term.{Term}
use Rattle.xpath_parser.specs.declared.term.Term.TheVariants as t
use Rattle.xpath_parser.specs.Grammar as g
use Rattle.xpath_parser.specs.Grammar.{tier_of, Node, Reads}
use Rattle.xpath_parser.specs.Faults.{commas}

-- no comma outside of brackets, and as many brackets close as open
abbrev pub Level : List Term → Type 0
Level ts = (d : ℕ) (more : List Term) → commas d (ts ++ more) ≡ commas d more

level_both : (ts a b : List Term) → ts ≡ a ++ b → Level a → Level b → Level ts
level_both ts a b is p q = λ d more. ap (λ v. commas d (v ++ more)) is ∙ ap (commas d) (append_assoc a b more) ∙ p d (b ++ more) ∙ q d more

-- a term that is no bracket and no comma
abbrev Plain : Term → Type 0
Plain w = (d : ℕ) (ts : List Term) → commas d (w ∷ ts) ≡ commas d ts

level_more : (w : Term) (ts : List Term) → Plain w → Level ts → Level (w ∷ ts)
level_more w ts h p = λ d more. h d (ts ++ more) ∙ p d more

plain_operator : (op : Term) (k : ℕ) → tier_of op ≡ suc k → k < 8 → Plain op
plain_operator t.OpenRound k o l = absurd (omega arith)
plain_operator t.OpenSquare k o l = absurd (omega arith)
plain_operator t.CloseRound k o l = absurd (omega arith)
plain_operator t.CloseSquare k o l = absurd (omega arith)
plain_operator t.Comma k o l = absurd (omega arith)
plain_operator _ k o l = λ d ts. refl

-- in round brackets
round_level : (ts : List Term) → ((d : ℕ) (more : List Term) → commas (suc d) (ts ++ more) ≡ commas (suc d) more) → Level (t.OpenRound ∷ (ts ++ t.CloseRound ∷ []))
round_level ts p = λ d more. ap (commas (suc d)) (append_assoc ts (t.CloseRound ∷ []) more) ∙ p d (t.CloseRound ∷ more)

square_level : (ts a b : List Term) → ts ≡ a ++ t.CloseSquare ∷ b → Level a → Level b → Level (t.OpenSquare ∷ ts)
square_level ts a b is p q = λ d more.
    ap (λ v. commas (suc d) (v ++ more)) is ∙ ap (commas (suc d)) (append_assoc a (t.CloseSquare ∷ b) more) ∙ p (suc d) (t.CloseSquare ∷ (b ++ more)) ∙ q d more

-- the commas between arguments
abbrev extra : ℕ → List Expr → ℕ
extra zero xs = length xs - 1
extra (suc d) xs = 0

abbrev pub Counted : List Term → Node → Type 0
Counted ts (g.at k x) = k ≤ 8 → Level ts
Counted ts (g.rest k ps) = k < 8 → Level ts
Counted ts (g.args xs) = (0 < length xs) × ((d : ℕ) (more : List Term) → commas d (ts ++ more) ≡ extra d xs + commas d more)
Counted ts _ = Level ts

args_inside : (ts : List Term) (xs : List Expr) → ((d : ℕ) (more : List Term) → commas d (ts ++ more) ≡ extra d xs + commas d more) → (d : ℕ) (more : List Term) → commas (suc d) (ts ++ more) ≡ commas (suc d) more
args_inside ts xs p d more = p (suc d) more ∙ omega arith

args_counted : (ts a b : List Term) (x : Expr) (xs : List Expr) → ts ≡ a ++ t.Comma ∷ b → Level a → (0 < length xs) × ((d : ℕ) (more : List Term) → commas d (b ++ more) ≡ extra d xs + commas d more)
    → (d : ℕ) (more : List Term) → commas d (ts ++ more) ≡ extra d (x ∷ xs) + commas d more
args_counted ts a b x xs is p q zero more =
    ap (λ v. commas 0 (v ++ more)) is ∙ ap (commas 0) (append_assoc a (t.Comma ∷ b) more) ∙ p 0 (t.Comma ∷ (b ++ more))
    ∙ ap suc (q.1 0 more) ∙ (let some = q.0 in omega arith)
args_counted ts a b x xs is p q (suc d) more =
    ap (λ v. commas (suc d) (v ++ more)) is ∙ ap (commas (suc d)) (append_assoc a (t.Comma ∷ b) more) ∙ p (suc d) (t.Comma ∷ (b ++ more)) ∙ q.1 (suc d) more

one_extra : (x : Expr) (d : ℕ) (more : List Term) → commas d more ≡ extra d (x ∷ []) + commas d more
one_extra x zero more = omega arith
one_extra x (suc d) more = omega arith

pub counted : {ts : List Term} {node : Node} → Reads ts node → Counted ts node
counted (g.path_here r) = λ k. counted r
counted g.path_root = λ k d more. refl
counted (g.path_from_root {ts = ts} r) = λ k. level_more t.Slash ts (λ d us. refl) (counted r)
counted (g.path_below_root {ts = ts} r) = λ k. level_more t.DoubleSlash ts (λ d us. refl) (counted r)
counted (g.filter {a = a} {b = b} r q is) = λ k. level_both _ a b is (counted r) (counted q)
counted (g.filter_path {a = a} {b = b} {c = c} r q u is) = λ k. level_both _ a (b ++ t.Slash ∷ c) is (counted r) (level_both _ b (t.Slash ∷ c) refl (counted q) (level_more t.Slash c (λ d us. refl) (counted u)))
counted (g.filter_below {a = a} {b = b} {c = c} r q u is) = λ k. level_both _ a (b ++ t.DoubleSlash ∷ c) is (counted r) (level_both _ b (t.DoubleSlash ∷ c) refl (counted q) (level_more t.DoubleSlash c (λ d us. refl) (counted u)))
counted (g.signs r) = λ k. counted r
counted (g.no_sign r) = counted r (omega arith)
counted (g.sign {ts = ts} r) = level_more t.Minus ts (λ d us. refl) (counted r)
counted (g.tier {a = a} {b = b} j r q is) = λ k. level_both _ a b is (counted r (omega arith)) (counted q (omega arith))
counted g.rest_end = λ k d more. refl
counted (g.rest_more {ts = ts} {a = a} {b = b} {op = op} o r q is) = λ k. level_more op ts (plain_operator op _ o k) (level_both ts a b is (counted r (omega arith)) (counted q k))
counted g.literal = λ d more. refl
counted g.number = λ d more. refl
counted g.fraction = λ d more. refl
counted g.too_large = λ d more. refl
counted g.variable = λ d more. refl
counted (g.round {ts = ts} r) = round_level ts (λ d more. counted r (omega arith) (suc d) more)
counted g.call_none = λ d more. refl
counted (g.call {ts = ts} {g = f} {xs = xs} r) = level_more (t.Function f) (t.OpenRound ∷ (ts ++ t.CloseRound ∷ [])) (λ d us. refl) (round_level ts (let p = counted r in args_inside ts xs p.1))
counted g.unknown_none = λ d more. refl
counted (g.unknown {ts = ts} {xs = xs} r) = level_more t.UnknownFunction (t.OpenRound ∷ (ts ++ t.CloseRound ∷ [])) (λ d us. refl) (round_level ts (let p = counted r in args_inside ts xs p.1))
counted (g.args_one {x = x} r) = (omega arith, λ d more. counted r (omega arith) d more ∙ one_extra x d more)
counted (g.args_more {ts = ts} {a = a} {b = b} {x = x} {xs = xs} r q is) = (omega arith, args_counted ts a b x xs is (counted r (omega arith)) (counted q))
counted g.preds_end = λ d more. refl
counted (g.preds_more {ts = ts} {a = a} {b = b} r q is) = square_level ts a b is (counted r (omega arith)) (counted q)
counted g.any_name = λ d more. refl
counted g.name = λ d more. refl
counted g.prefixed = λ d more. refl
counted g.of_type = λ d more. refl
counted g.instruction_named = λ d more. refl
counted (g.step_child {a = a} {b = b} r q is) = level_both _ a b is (counted r) (counted q)
counted (g.step_attribute {ts = ts} {a = a} {b = b} r q is) = level_more t.At ts (λ d us. refl) (level_both ts a b is (counted r) (counted q))
counted (g.step_axis {ts = ts} {a = a} {b = b} {axis = axis} r q is) = level_more (t.Axis axis) (t.DoubleColon ∷ ts) (λ d us. refl) (level_more t.DoubleColon ts (λ d us. refl) (level_both ts a b is (counted r) (counted q)))
counted g.step_self = λ d more. refl
counted g.step_parent = λ d more. refl
counted (g.steps_one r) = counted r
counted (g.steps_more {a = a} {b = b} r q is) = level_both _ a (t.Slash ∷ b) is (counted r) (level_more t.Slash b (λ d us. refl) (counted q))
counted (g.steps_below {a = a} {b = b} r q is) = level_both _ a (t.DoubleSlash ∷ b) is (counted r) (level_more t.DoubleSlash b (λ d us. refl) (counted q))
