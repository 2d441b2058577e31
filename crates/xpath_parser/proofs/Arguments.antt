-- What is well typed has no function with a wrong number of arguments among its terms.
use Rattle.std.proofs.Common.{◌≡◌, refl, sym, ◌∙◌, ap, ℕ, zero, suc, Bool, true, false, ◌&&◌, List, [], ◌∷◌, ◌++◌, map, length, eqb, arith, append_assoc, inl, inr}
use Rattle.std.specs.List.{list_all}
use Rattle.xpath_parser.specs.declared.expression.Expr.{Expr}
use Rattle.xpath_parser.specs.declared.expression.Expr.TheVariants as e
use Rattle.xpath_parser.specs.declared.expression.Func.{Func}
use Rattle.xpath_parser.specs.declared.expression.Func.TheVariants as func
use Rattle.xpath_parser.specs.declared.expression.Start.{Start}
use Rattle.xpath_parser.specs.declared.expression.Start.TheVariants.{Here, Root, From}
use Rattle.xpath_parser.specs.declared.expression.Step.{Step}
use Rattle.doc_model.specs.declared.Axis.{Axis}
use Rattle.doc_model.specs.declared.Axis.TheVariants as axis_of
use Rattle.doc_model.specs.declared.NodeTest.{NodeTest}
use Rattle.xpath_parser.specs.declared.term.Term.{Term}
use Rattle.xpath_parser.specs.declared.term.Term.TheVariants as t
use Rattle.xpath_parser.specs.Grammar as g
use Rattle.xpath_parser.specs.Grammar.{tier_of, Node, Reads, Operands, operand, made, joined, negated, filtered, step_of, any_below}
use Rattle.xpath_parser.specs.Faults.{argument_count, count_after_round, commas}
use Rattle.xpath_parser.specs.Shapes.{typing, takes, is_nodes, wants_nodes, if_wanted}
use Rattle.xpath_parser.specs.inner.Typings.{start_right, step_right, operand_right, fits}
use Rattle.xpath_parser.proofs.Commas.{counted}
use Rattle.xpath_parser.proofs.Starting.{First, Starts, begins}
use Rattle.xpath_parser.proofs.ShapeLemmas as shapes

-- each function among the terms has its number of arguments
abbrev pub calls_fit : List Term → Bool
calls_fit [] = true
calls_fit (t.Function f ∷ ts) = takes f (argument_count ts) && calls_fit ts
calls_fit (w ∷ ts) = calls_fit ts

-- and what stands before other terms adds nothing to that
abbrev pub Fits : List Term → Type 0
Fits ts = (more : List Term) → calls_fit (ts ++ more) ≡ calls_fit more

both_fit : (ts a b : List Term) → ts ≡ a ++ b → Fits a → Fits b → Fits ts
both_fit ts a b is p q = λ more. ap (λ v. calls_fit (v ++ more)) is ∙ ap calls_fit (append_assoc a b more) ∙ p (b ++ more) ∙ q more

-- a term that is no function
abbrev Plain : Term → Type 0
Plain w = (ts : List Term) → calls_fit (w ∷ ts) ≡ calls_fit ts

more_fit : (w : Term) (ts : List Term) → Plain w → Fits ts → Fits (w ∷ ts)
more_fit w ts h p = λ more. h (ts ++ more) ∙ p more

plain_operator : (op : Term) (k : ℕ) → tier_of op ≡ suc k → Plain op
plain_operator (t.Function f) k o = absurd (omega arith)
plain_operator _ k o = λ ts. refl

-- in brackets
round_fit : (ts : List Term) → Fits ts → Fits (t.OpenRound ∷ (ts ++ t.CloseRound ∷ []))
round_fit ts p = λ more. ap calls_fit (append_assoc ts (t.CloseRound ∷ []) more) ∙ p (t.CloseRound ∷ more)

square_fit : (ts a b : List Term) → ts ≡ a ++ t.CloseSquare ∷ b → Fits a → Fits b → Fits (t.OpenSquare ∷ ts)
square_fit ts a b is p q = λ more.
    ap (λ v. calls_fit (v ++ more)) is ∙ ap calls_fit (append_assoc a (t.CloseSquare ∷ b) more) ∙ p (t.CloseSquare ∷ (b ++ more)) ∙ q more

-- ---- the number of arguments

count_some : (w : Term) (ws : List Term) → Starts 8 w → count_after_round (w ∷ ws) ≡ suc (commas 0 (w ∷ ws))
count_some t.CloseRound ws (inl h) = cc
count_some t.CloseRound ws (inr h) = let no : t.CloseRound ≡ t.Minus = h.0 in cc
count_some _ ws h = refl

args_count : (ts : List Term) (xs : List Expr) (more : List Term) → Reads ts (g.args xs) → argument_count (t.OpenRound ∷ (ts ++ t.CloseRound ∷ more)) ≡ length xs
args_count ts xs more r =
    let first : First (Starts 8) ts = begins r in
    let back = t.CloseRound ∷ more in
    let all = counted r in
    ap (λ v. count_after_round (v ++ back)) first.is ∙ count_some first.head (first.tail ++ back) first.fits ∙ ap (λ v. suc (commas 0 (v ++ back))) (sym first.is)
    ∙ ap suc (all.1 0 back) ∙ (let some = all.0 in omega arith)

call_fit : (f : Func) (ts : List Term) (xs : List Expr) → Reads ts (g.args xs) → takes f (length xs) ≡ true → Fits ts → Fits (t.Function f ∷ t.OpenRound ∷ (ts ++ t.CloseRound ∷ []))
call_fit f ts xs r h p = λ more.
    let inside = append_assoc ts (t.CloseRound ∷ []) more in
    ap (λ v. takes f (count_after_round v) && calls_fit v) inside
    ∙ ap (λ n. takes f n && calls_fit (ts ++ t.CloseRound ∷ more)) (args_count ts xs more r)
    ∙ ap (λ b. b && calls_fit (ts ++ t.CloseRound ∷ more)) h ∙ p (t.CloseRound ∷ more)

-- ---- the parts of what is typed right

and_left : (a b : Bool) → a && b ≡ true → a ≡ true
and_left true b h = refl
and_left false b h = cc

and_right : (a b : Bool) → a && b ≡ true → b ≡ true
and_right true b h = h
and_right false b h = cc

abbrev right : Expr → Type 0
right x = (typing x).right ≡ true

abbrev all_right : List Expr → Type 0
all_right xs = list_all (λ x. (typing x).right) xs ≡ true

fits_right : (wanted : Bool) (xs : List Expr) → list_all (fits wanted) xs ≡ true → all_right xs
fits_right wanted [] h = refl
fits_right wanted (x ∷ xs) h =
    let one : right x = and_left (typing x).right (if_wanted wanted (typing x).shape) (and_left (fits wanted x) (list_all (fits wanted) xs) h) in
    ap (λ b. b && list_all (λ x. (typing x).right) xs) one ∙ fits_right wanted xs (and_right (fits wanted x) (list_all (fits wanted) xs) h)

abbrev pairs_right : Operands → Type 0
pairs_right ps = list_all (λ p. (typing p.1).right) ps ≡ true

values_right : (ps : Operands) → all_right (map (λ q. q.1) ps) → pairs_right ps
values_right [] h = refl
values_right (p ∷ ps) h =
    let rest = list_all (λ x. (typing x).right) (map (λ q. q.1) ps) in
    ap (λ b. b && list_all (λ p. (typing p.1).right) ps) (and_left (typing p.1).right rest h) ∙ values_right ps (and_right (typing p.1).right rest h)

operands_right : (ps : Operands) → list_all operand_right (map operand ps) ≡ true → pairs_right ps
operands_right [] h = refl
operands_right (p ∷ ps) h =
    let rest = list_all operand_right (map operand ps) in
    let one : right p.1 = and_left (typing p.1).right true (sym (shapes.operand_fits (operand p)) ∙ and_left (operand_right (operand p)) rest h) in
    ap (λ b. b && list_all (λ p. (typing p.1).right) ps) one ∙ operands_right ps (and_right (operand_right (operand p)) rest h)

-- the first operand, and the others
abbrev Parts : Expr → Operands → Type 0
Parts x ps = right x × pairs_right ps

listed_parts : (wanted : Bool) (x : Expr) (p : Term × Expr) (ps : Operands) → list_all (fits wanted) (x ∷ p.1 ∷ map (λ q. q.1) ps) ≡ true → Parts x (p ∷ ps)
listed_parts wanted x p ps h =
    let all = fits_right wanted (x ∷ map (λ q. q.1) (p ∷ ps)) h in
    let rest = list_all (λ x. (typing x).right) (map (λ q. q.1) (p ∷ ps)) in (
      and_left (typing x).right rest all,
      values_right (p ∷ ps) (and_right (typing x).right rest all),
    )

made_parts : (k : ℕ) (x : Expr) (ps : Operands) → right (made k x ps) → Parts x ps
unfolding joined
made_parts k x [] h = (h, refl)
made_parts k x (p ∷ ps) h = by (eqb k 1) (eqb k 7) (eqb k 8) refl refl refl h
  where
    by : (one seven eight : Bool) → eqb k 1 ≡ one → eqb k 7 ≡ seven → eqb k 8 ≡ eight → right (joined k x p ps) → Parts x (p ∷ ps)
    by true seven eight h1 h7 h8 h = listed_parts true x p ps (sym (ap (λ v. v.right) (shapes.at_union (x ∷ p.1 ∷ map (λ q. q.1) ps))) ∙ (let same = rw h1 at h in same))
    by false true eight h1 h7 h8 h = listed_parts false x p ps (sym (ap (λ v. v.right) (shapes.at_and (x ∷ p.1 ∷ map (λ q. q.1) ps))) ∙ (let same = rw (h1, h7) at h in same))
    by false false true h1 h7 h8 h = listed_parts false x p ps (sym (ap (λ v. v.right) (shapes.at_or (x ∷ p.1 ∷ map (λ q. q.1) ps))) ∙ (let same = rw (h1, h7, h8) at h in same))
    by false false false h1 h7 h8 h =
        let all : (typing x).right && list_all operand_right (map operand (p ∷ ps)) ≡ true = sym (ap (λ v. v.right) (shapes.at_joined x (map operand (p ∷ ps)))) ∙ (let same = rw (h1, h7, h8) at h in same) in
        let rest = list_all operand_right (map operand (p ∷ ps)) in
        (and_left (typing x).right rest all, operands_right (p ∷ ps) (and_right (typing x).right rest all))

negated_right : (n : ℕ) (x : Expr) → right (negated n x) → right x
negated_right zero x h = h
negated_right (suc n) x h = sym (ap (λ v. v.right) (shapes.at_minus (suc n) x)) ∙ h

filtered_parts : (x : Expr) (ps : List Expr) → right (filtered x ps) → right x × all_right ps
filtered_parts x [] h = (h, refl)
filtered_parts x (p ∷ ps) h =
    let all = sym (ap (λ v. v.right) (shapes.at_filter x (p ∷ ps))) ∙ h in
    let rest = list_all (fits false) (p ∷ ps) in (
      and_left (typing x).right (is_nodes (typing x).shape && rest) all,
      fits_right false (p ∷ ps) (and_right (is_nodes (typing x).shape) rest (and_right (typing x).right (is_nodes (typing x).shape && rest) all)),
    )

path_parts : (start : Start) (ss : List Step) → right (e.Path start ss) → (start_right start ≡ true) × (list_all step_right ss ≡ true)
path_parts start ss h =
    let all = sym (ap (λ v. v.right) (shapes.at_path start ss)) ∙ h in
    (and_left (start_right start) (list_all step_right ss) all, and_right (start_right start) (list_all step_right ss) all)

from_right : (x : Expr) → start_right (From x) ≡ true → right x
from_right x h = and_left (typing x).right (is_nodes (typing x).shape) (sym (shapes.at_from x) ∙ h)

call_parts : (f : Func) (xs : List Expr) → right (e.Call f xs) → (takes f (length xs) ≡ true) × all_right xs
call_parts f xs h =
    let all = sym (ap (λ v. v.right) (shapes.at_call f xs)) ∙ h in
    let rest = list_all (fits (wants_nodes f)) xs in
    (and_left (takes f (length xs)) rest all, fits_right (wants_nodes f) xs (and_right (takes f (length xs)) rest all))

step_parts : (axis : Axis) (n : NodeTest) (ps : List Expr) → step_right (step_of axis n ps) ≡ true → all_right ps
step_parts axis n ps h = fits_right false ps (sym (shapes.at_step (step_of axis n ps)) ∙ h)

one_right : (x : Expr) (xs : List Expr) → all_right (x ∷ xs) → right x × all_right xs
one_right x xs h = (and_left (typing x).right (list_all (λ x. (typing x).right) xs) h, and_right (typing x).right (list_all (λ x. (typing x).right) xs) h)

step_first : (s : Step) (ss : List Step) → list_all step_right (s ∷ ss) ≡ true → (step_right s ≡ true) × (list_all step_right ss ≡ true)
step_first s ss h = (and_left (step_right s) (list_all step_right ss) h, and_right (step_right s) (list_all step_right ss) h)

-- ---- along the rules

abbrev Right : Node → Type 0
Right (g.at k x) = right x
Right (g.rest k ps) = pairs_right ps
Right (g.signed n x) = right x
Right (g.primary x) = right x
Right (g.args xs) = all_right xs
Right (g.preds xs) = all_right xs
Right (g.test n) = Unit {0}
Right (g.step s) = step_right s ≡ true
Right (g.steps ss) = list_all step_right ss ≡ true

pub calls : {ts : List Term} {node : Node} → Reads ts node → Right node → Fits ts
calls (g.path_here {ss = ss} r) h = calls r (path_parts Here ss h).1
calls g.path_root h = λ more. refl
calls (g.path_from_root {ts = ts} {ss = ss} r) h = more_fit t.Slash ts (λ us. refl) (calls r (path_parts Root ss h).1)
calls (g.path_below_root {ts = ts} {ss = ss} r) h = more_fit t.DoubleSlash ts (λ us. refl) (calls r (step_first any_below ss (path_parts Root (any_below ∷ ss) h).1).1)
calls (g.filter {a = a} {b = b} {x = x} {ps = ps} r q is) h = let p = filtered_parts x ps h in both_fit _ a b is (calls r p.0) (calls q p.1)
calls (g.filter_path {a = a} {b = b} {c = c} {x = x} {ps = ps} {ss = ss} r q u is) h =
    let all = path_parts (From (filtered x ps)) ss h in
    let p = filtered_parts x ps (from_right (filtered x ps) all.0) in
    both_fit _ a (b ++ t.Slash ∷ c) is (calls r p.0) (both_fit _ b (t.Slash ∷ c) refl (calls q p.1) (more_fit t.Slash c (λ us. refl) (calls u all.1)))
calls (g.filter_below {a = a} {b = b} {c = c} {x = x} {ps = ps} {ss = ss} r q u is) h =
    let all = path_parts (From (filtered x ps)) (any_below ∷ ss) h in
    let p = filtered_parts x ps (from_right (filtered x ps) all.0) in
    both_fit _ a (b ++ t.DoubleSlash ∷ c) is (calls r p.0) (both_fit _ b (t.DoubleSlash ∷ c) refl (calls q p.1) (more_fit t.DoubleSlash c (λ us. refl) (calls u (step_first any_below ss all.1).1)))
calls (g.signs {n = n} {x = x} r) h = calls r (negated_right n x h)
calls (g.no_sign r) h = calls r h
calls (g.sign {ts = ts} r) h = more_fit t.Minus ts (λ us. refl) (calls r h)
calls (g.tier {a = a} {b = b} {k = k} {x = x} {ps = ps} j r q is) h = let p = made_parts (suc k) x ps h in both_fit _ a b is (calls r p.0) (calls q p.1)
calls g.rest_end h = λ more. refl
calls (g.rest_more {ts = ts} {a = a} {b = b} {k = k} {op = op} {x = x} {ps = ps} o r q is) h =
    let p : right x × pairs_right ps = (and_left (typing x).right (list_all (λ p. (typing p.1).right) ps) h, and_right (typing x).right (list_all (λ p. (typing p.1).right) ps) h) in
    more_fit op ts (plain_operator op k o) (both_fit ts a b is (calls r p.0) (calls q p.1))
calls g.literal h = λ more. refl
calls g.number h = λ more. refl
calls g.fraction h = λ more. refl
calls g.too_large h = λ more. refl
calls g.variable h = λ more. refl
calls (g.round {ts = ts} r) h = round_fit ts (calls r h)
calls (g.call_none {g = f}) h = λ more. ap (λ b. b && calls_fit more) (call_parts f [] h).0
calls (g.call {ts = ts} {g = f} {xs = xs} r) h = let p = call_parts f xs h in call_fit f ts xs r p.0 (calls r p.1)
calls g.unknown_none h = λ more. refl
calls (g.unknown {ts = ts} {xs = xs} r) h = more_fit t.UnknownFunction (t.OpenRound ∷ (ts ++ t.CloseRound ∷ [])) (λ us. refl) (round_fit ts (calls r (call_parts func.Last xs h).1))
calls (g.args_one {x = x} r) h = calls r (one_right x [] h).0
calls (g.args_more {ts = ts} {a = a} {b = b} {x = x} {xs = xs} r q is) h = let p = one_right x xs h in both_fit ts a (t.Comma ∷ b) is (calls r p.0) (more_fit t.Comma b (λ us. refl) (calls q p.1))
calls g.preds_end h = λ more. refl
calls (g.preds_more {ts = ts} {a = a} {b = b} {x = x} {xs = xs} r q is) h = let p = one_right x xs h in square_fit ts a b is (calls r p.0) (calls q p.1)
calls g.any_name h = λ more. refl
calls g.name h = λ more. refl
calls g.prefixed h = λ more. refl
calls g.of_type h = λ more. refl
calls g.instruction_named h = λ more. refl
calls (g.step_child {a = a} {b = b} {n = n} {ps = ps} r q is) h = both_fit _ a b is (calls r tt) (calls q (step_parts axis_of.Child n ps h))
calls (g.step_attribute {ts = ts} {a = a} {b = b} {n = n} {ps = ps} r q is) h = more_fit t.At ts (λ us. refl) (both_fit ts a b is (calls r tt) (calls q (step_parts axis_of.Attribute n ps h)))
calls (g.step_axis {ts = ts} {a = a} {b = b} {axis = axis} {n = n} {ps = ps} r q is) h =
    more_fit (t.Axis axis) (t.DoubleColon ∷ ts) (λ us. refl) (more_fit t.DoubleColon ts (λ us. refl) (both_fit ts a b is (calls r tt) (calls q (step_parts axis n ps h))))
calls g.step_self h = λ more. refl
calls g.step_parent h = λ more. refl
calls (g.steps_one {s = s} r) h = calls r (step_first s [] h).0
calls (g.steps_more {a = a} {b = b} {s = s} {ss = ss} r q is) h = let p = step_first s ss h in both_fit _ a (t.Slash ∷ b) is (calls r p.0) (more_fit t.Slash b (λ us. refl) (calls q p.1))
calls (g.steps_below {a = a} {b = b} {s = s} {ss = ss} r q is) h =
    let p = step_first s (any_below ∷ ss) h in
    both_fit _ a (t.DoubleSlash ∷ b) is (calls r p.0) (more_fit t.DoubleSlash b (λ us. refl) (calls q (step_first any_below ss p.1).1))
