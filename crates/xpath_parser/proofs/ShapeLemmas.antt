-- The shape of an expression at each form.
use Rattle.std.proofs.Common.{◌≡◌, refl, sym, ◌∙◌, ap, ℕ, Bool, true, false, ◌&&◌, List, [], ◌∷◌, map, length, ℤ, slice_get, Some, ◌+◌, ◌<◌, drop, get_or}
use Rattle.std.specs.List.{list_all}
use Rattle.std.proofs.lemmas.List.{length-map}
use Rattle.xpath_values.specs.declared.value.Shape.{Shape}
use Rattle.xpath_values.specs.declared.value.Shape.TheVariants as shape
use Rattle.xpath_parser.specs.declared.expression.Func.{Func}
use Rattle.xpath_parser.specs.declared.expression.Infix.{Infix}
use Rattle.xpath_parser.specs.declared.expression.Expr.{Expr}
use Rattle.xpath_parser.specs.declared.expression.Expr.TheVariants as e
use Rattle.xpath_parser.specs.declared.expression.Expr.TheOpen as open_
use Rattle.xpath_parser.specs.declared.expression.Expr.TheFolds.{fold-roll-Expr, fold-roll-Start, fold_out-Step, fold_out-Operand}
use Rattle.xpath_parser.specs.declared.expression.Expr.TheViews.{rolls-Here, rolls-Root, rolls-From}
use Rattle.xpath_parser.specs.declared.expression.Start.{Start}
use Rattle.xpath_parser.specs.declared.expression.Start.TheVariants.{Here, Root, From}
use Rattle.xpath_parser.specs.declared.expression.Step.{Step, out-Step}
use Rattle.xpath_parser.specs.declared.expression.Operand.{Operand, out-Operand}
use Rattle.xpath_parser.specs.Shapes.{Typing, typing, is_nodes, infix_shape, joined_shape, function_shape, takes, wants_nodes, if_wanted, expr_typing, start_typing, operand_typing, step_typing}
use Rattle.xpath_parser.specs.inner.Typings.{start_right, operand_typed, step_right, operand_right, fits}
use Rattle.xpath_parser.proofs.Equations.{all_map}
use Rattle.xpath_parser.proofs.Walks.{here}

abbrev pub typed : Shape → Bool → Typing
typed s r = record { shape = s; right = r }

all_same : {A : Type 0} (p q : A → Bool) → ((x : A) → p x ≡ q x) → (xs : List A) → list_all p xs ≡ list_all q xs
all_same p q h [] = refl
all_same p q h (x ∷ xs) = ap (λ b. b && list_all p xs) (h x) ∙ ap (λ b. q x && b) (all_same p q h xs)

pub and_true : (b : Bool) → b ≡ b && true
and_true true = refl
and_true false = refl

all_right : (es : List Expr) → list_all (λ m. m.right) (map typing es) ≡ list_all (fits false) es
all_right es = all_map typing (λ m. m.right) es ∙ all_same (λ x. (typing x).right) (fits false) (λ x. and_true (typing x).right) es

all_fit : (wanted : Bool) (es : List Expr) → list_all (λ m. m.right && if_wanted wanted m.shape) (map typing es) ≡ list_all (fits wanted) es
all_fit wanted es = all_map typing (λ m. m.right && if_wanted wanted m.shape) es

pub at_operand : (o : Operand) → operand_typed o ≡ ((out-Operand o).op, typing (out-Operand o).value)
unfolding typing start_right operand_typed step_right
at_operand o = fold_out-Operand Typing Bool (Infix × Typing) Bool expr_typing start_typing operand_typing step_typing o

pub at_step : (s : Step) → step_right s ≡ list_all (fits false) (out-Step s).predicates
unfolding typing start_right operand_typed step_right
at_step s = fold_out-Step Typing Bool (Infix × Typing) Bool expr_typing start_typing operand_typing step_typing s ∙ all_right (out-Step s).predicates

pub at_here : start_right Here ≡ true
unfolding typing start_right operand_typed step_right
at_here = ap start_right (sym rolls-Here) ∙ fold-roll-Start Typing Bool (Infix × Typing) Bool expr_typing start_typing operand_typing step_typing open_.Here

pub at_root : start_right Root ≡ true
unfolding typing start_right operand_typed step_right
at_root = ap start_right (sym rolls-Root) ∙ fold-roll-Start Typing Bool (Infix × Typing) Bool expr_typing start_typing operand_typing step_typing open_.Root

pub at_from : (x : Expr) → start_right (From x) ≡ (typing x).right && is_nodes (typing x).shape
unfolding typing start_right operand_typed step_right
at_from x = ap start_right (sym (rolls-From x)) ∙ fold-roll-Start Typing Bool (Infix × Typing) Bool expr_typing start_typing operand_typing step_typing (open_.From x)

pub at_or : (es : List Expr) → typing (e.Or es) ≡ typed shape.Bool (list_all (fits false) es)
unfolding typing start_right operand_typed step_right
at_or es = ap typing (sym (e.rolls-Or es)) ∙ fold-roll-Expr Typing Bool (Infix × Typing) Bool expr_typing start_typing operand_typing step_typing (open_.Or es) ∙ ap (typed shape.Bool) (all_right es)

pub at_and : (es : List Expr) → typing (e.And es) ≡ typed shape.Bool (list_all (fits false) es)
unfolding typing start_right operand_typed step_right
at_and es = ap typing (sym (e.rolls-And es)) ∙ fold-roll-Expr Typing Bool (Infix × Typing) Bool expr_typing start_typing operand_typing step_typing (open_.And es) ∙ ap (typed shape.Bool) (all_right es)

pub at_joined : (x : Expr) (ops : List Operand) → typing (e.Joined x ops) ≡ typed (joined_shape (typing x).shape (map operand_typed ops)) ((typing x).right && list_all operand_right ops)
unfolding typing start_right operand_typed step_right
at_joined x ops = ap typing (sym (e.rolls-Joined x ops)) ∙ fold-roll-Expr Typing Bool (Infix × Typing) Bool expr_typing start_typing operand_typing step_typing (open_.Joined x ops) ∙ ap (λ b. typed (joined_shape (typing x).shape (map operand_typed ops)) ((typing x).right && b)) (all_map operand_typed (λ p. p.1.right) ops)

pub at_minus : (n : ℕ) (x : Expr) → typing (e.Minus n x) ≡ typed shape.Num (typing x).right
unfolding typing start_right operand_typed step_right
at_minus n x = ap typing (sym (e.rolls-Minus n x)) ∙ fold-roll-Expr Typing Bool (Infix × Typing) Bool expr_typing start_typing operand_typing step_typing (open_.Minus n x)

pub at_union : (es : List Expr) → typing (e.Union es) ≡ typed shape.Nodes (list_all (fits true) es)
unfolding typing start_right operand_typed step_right
at_union es = ap typing (sym (e.rolls-Union es)) ∙ fold-roll-Expr Typing Bool (Infix × Typing) Bool expr_typing start_typing operand_typing step_typing (open_.Union es) ∙ ap (typed shape.Nodes) (all_fit true es)

pub at_path : (start : Start) (ss : List Step) → typing (e.Path start ss) ≡ typed shape.Nodes (start_right start && list_all step_right ss)
unfolding typing start_right operand_typed step_right
at_path start ss = ap typing (sym (e.rolls-Path start ss)) ∙ fold-roll-Expr Typing Bool (Infix × Typing) Bool expr_typing start_typing operand_typing step_typing (open_.Path start ss) ∙ ap (λ b. typed shape.Nodes (start_right start && b)) (all_map step_right (λ s. s) ss)

pub at_filter : (x : Expr) (ps : List Expr) → typing (e.Filter x ps) ≡ typed (typing x).shape ((typing x).right && (is_nodes (typing x).shape && list_all (fits false) ps))
unfolding typing start_right operand_typed step_right
at_filter x ps = ap typing (sym (e.rolls-Filter x ps)) ∙ fold-roll-Expr Typing Bool (Infix × Typing) Bool expr_typing start_typing operand_typing step_typing (open_.Filter x ps) ∙ ap (λ b. typed (typing x).shape ((typing x).right && (is_nodes (typing x).shape && b))) (all_right ps)

pub at_literal : (t : List ℕ) → typing (e.Literal t) ≡ typed shape.Str true
unfolding typing start_right operand_typed step_right
at_literal t = ap typing (sym (e.rolls-Literal t)) ∙ fold-roll-Expr Typing Bool (Infix × Typing) Bool expr_typing start_typing operand_typing step_typing (open_.Literal t)

pub at_number : (n : ℤ) → typing (e.Number n) ≡ typed shape.Num true
unfolding typing start_right operand_typed step_right
at_number n = ap typing (sym (e.rolls-Number n)) ∙ fold-roll-Expr Typing Bool (Infix × Typing) Bool expr_typing start_typing operand_typing step_typing (open_.Number n)

pub at_call : (g : Func) (es : List Expr) → typing (e.Call g es) ≡ typed (function_shape g) (takes g (length es) && list_all (fits (wants_nodes g)) es)
unfolding typing start_right operand_typed step_right
at_call g es = ap typing (sym (e.rolls-Call g es)) ∙ fold-roll-Expr Typing Bool (Infix × Typing) Bool expr_typing start_typing operand_typing step_typing (open_.Call g es) ∙ ap (λ n. typed (function_shape g) (takes g n && list_all (λ m. m.right && if_wanted (wants_nodes g) m.shape) (map typing es))) (length-map es typing)
    ∙ ap (λ b. typed (function_shape g) (takes g (length es) && b)) (all_fit (wants_nodes g) es)

-- ---- what serves the code's own functions

pub of_shape : (x y : Expr) (s : Shape) (b : Bool) → x ≡ y → typing y ≡ typed s b → s ≡ (typing x).shape
of_shape x y s b e h = ap (λ v. v.shape) (sym h) ∙ ap (λ z. (typing z).shape) (sym e)

pub of_right : (x y : Expr) (s : Shape) (a b : Bool) → x ≡ y → typing y ≡ typed s b → a ≡ b → a ≡ (typing x).right
of_right x y s a b e h same = same ∙ ap (λ v. v.right) (sym h) ∙ ap (λ z. (typing z).right) (sym e)

pub and_then : (p q r : Bool) → p ≡ true → q ≡ r → q ≡ p && r
and_then p q r h e = e ∙ ap (λ b. b && r) (sym h)

pub and_else : (a p r : Bool) → a ≡ p → a ≡ false → a ≡ p && r
and_else a p r e h = h ∙ ap (λ b. b && r) (sym h ∙ e)

pub and_three : (a b c : Bool) → (a && b) && c ≡ a && (b && c)
and_three true b c = refl
and_three false b c = refl

pub operand_fits : (o : Operand) → operand_right o ≡ fits false (out-Operand o).value
operand_fits o = ap (λ v. v.1.right) (at_operand o) ∙ and_true (typing (out-Operand o).value).right

pub joined_first : (s : Shape) (os : List Operand) (o : Operand) → slice_get os 0 ≡ Some o → infix_shape (out-Operand o).op ≡ joined_shape s (map operand_typed os)
joined_first s [] o h = cc
joined_first s (p ∷ ps) o h = let same : p ≡ o = cc in ap (λ v. infix_shape v.0) (sym (at_operand o)) ∙ ap (λ q. infix_shape (operand_typed q).0) (sym same)

pub operands_turn : (os : List Operand) (i : ℕ) (o : Operand) → i < length os → o ≡ get_or os i o → list_all operand_right (drop i os) ≡ fits false (out-Operand o).value && list_all operand_right (drop (i + 1) os)
operands_turn os i o l e = ap (list_all operand_right) (here os i o l e) ∙ ap (λ b. b && list_all operand_right (drop (i + 1) os)) (operand_fits o)

pub steps_turn : (ss : List Step) (i : ℕ) (s : Step) → i < length ss → s ≡ get_or ss i s → list_all step_right (drop i ss) ≡ list_all (fits false) (out-Step s).predicates && list_all step_right (drop (i + 1) ss)
steps_turn ss i s l e = ap (list_all step_right) (here ss i s l e) ∙ ap (λ b. b && list_all step_right (drop (i + 1) ss)) (at_step s)
