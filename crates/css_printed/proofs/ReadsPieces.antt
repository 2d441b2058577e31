-- The ways in which terms are put together to expressions, steps and predicates.
use Rattle.std.proofs.Common.{◌≡◌, refl, sym, ◌∙◌, ap, subst, ℕ, suc, true, List, [], ◌∷◌, ◌++◌, map, append-nil, append_assoc}
use Rattle.std.specs.List.{flat_map}
use Rattle.doc_model.specs.declared.Axis.{Axis}
use Rattle.doc_model.specs.declared.Axis.TheVariants as axis
use Rattle.doc_model.specs.declared.NodeTest.{NodeTest}
use Rattle.doc_model.specs.declared.NodeTest.TheVariants as node
use Rattle.xpath_values.specs.declared.value.Compare.TheVariants as compare
use Rattle.xpath_parser.specs.declared.expression.Expr.{Expr}
use Rattle.xpath_parser.specs.declared.expression.Expr.TheVariants as e
use Rattle.xpath_parser.specs.declared.expression.Func.{Func}
use Rattle.xpath_parser.specs.declared.expression.Infix.TheVariants as infix_of
use Rattle.xpath_parser.specs.declared.expression.Start.TheVariants as start
use Rattle.xpath_parser.specs.declared.expression.Step.{Step}
use Rattle.xpath_parser.specs.declared.term.NodeType.TheVariants as node_type
use Rattle.xpath_parser.specs.declared.term.Term.{Term}
use Rattle.xpath_parser.specs.declared.term.Term.TheVariants as t
use Rattle.xpath_parser.specs.Grammar as g
use Rattle.xpath_parser.specs.Grammar.{Reads, tier_of}
use Rattle.css_printed.specs.inner.Predicates.{step, joins, equals, both, number}
use Rattle.css_printed.proofs.Readings.{up, to_2, to_5, whole}
use Rattle.css_printed.proofs.TemplateTerms as p

-- ---- tiers

pub to_6 : {ts : List Term} {x : Expr} → Reads ts (g.at 0 x) → Reads ts (g.at 6 x)
to_6 r = up 5 (to_5 (to_2 r)) refl

pub to_7 : {ts : List Term} {x : Expr} → Reads ts (g.at 0 x) → Reads ts (g.at 7 x)
to_7 r = up 6 (to_6 r) refl

-- two operands
pub two : {a b : List Term} {x y : Expr} (k : ℕ) (op : Term) → Reads a (g.at k x) → tier_of op ≡ suc k → Reads b (g.at k y) → g.is_joined (suc k) ≡ true
    → Reads (a ++ op ∷ b) (g.at (suc k) (g.joined (suc k) x (op, y) []))
two {a} {b} k op r o q j = g.tier j r (g.rest_more o q g.rest_end (sym (append-nil b))) refl

-- `a = b`
pub equal : {a b : List Term} {x y : Expr} → Reads a (g.at 5 x) → Reads b (g.at 5 y) → Reads (a ++ t.Equal ∷ b) (g.at 6 (equals x y))
unfolding g.joined
equal r q = two 5 t.Equal r refl q refl

-- `a >= b`
pub greater_equal : {a b : List Term} {x y : Expr} → Reads a (g.at 0 x) → Reads b (g.at 0 y)
    → Reads (a ++ t.GreaterEqual ∷ b) (g.at 5 (joins (infix_of.Compare compare.GreaterEqual) x y))
unfolding g.joined
greater_equal r q = two 4 t.GreaterEqual (up 3 (up 2 (to_2 r) refl) refl) refl (up 3 (up 2 (to_2 q) refl) refl) refl

-- `a <= b`
pub less_equal : {a b : List Term} {x y : Expr} → Reads a (g.at 0 x) → Reads b (g.at 0 y)
    → Reads (a ++ t.LessEqual ∷ b) (g.at 5 (joins (infix_of.Compare compare.LessEqual) x y))
unfolding g.joined
less_equal r q = two 4 t.LessEqual (up 3 (up 2 (to_2 r) refl) refl) refl (up 3 (up 2 (to_2 q) refl) refl) refl

-- `a - b`
pub minus : {a b : List Term} {x y : Expr} → Reads a (g.at 0 x) → Reads b (g.at 0 y) → Reads (a ++ t.Minus ∷ b) (g.at 4 (joins infix_of.Sub x y))
unfolding g.joined
minus r q = two 3 t.Minus (up 2 (to_2 r) refl) refl (up 2 (to_2 q) refl) refl

-- `a mod b`
pub modulo : {a b : List Term} {x y : Expr} → Reads a (g.at 0 x) → Reads b (g.at 0 y) → Reads (a ++ t.Mod ∷ b) (g.at 3 (joins infix_of.Mod x y))
unfolding g.joined
modulo r q = two 2 t.Mod (to_2 r) refl (to_2 q) refl

-- `a and b`
pub and_two : {a b : List Term} {x y : Expr} → Reads a (g.at 6 x) → Reads b (g.at 6 y) → Reads (a ++ t.And ∷ b) (g.at 7 (both x y))
unfolding g.joined
and_two r q = two 6 t.And r refl q refl

-- `a and b and c`
pub and_three : {a b c : List Term} {x y z : Expr} → Reads a (g.at 6 x) → Reads b (g.at 6 y) → Reads c (g.at 6 z)
    → Reads (a ++ t.And ∷ (b ++ t.And ∷ c)) (g.at 7 (e.And (x ∷ y ∷ z ∷ [])))
unfolding g.joined
and_three {a} {b} {c} r q s = g.tier refl r (g.rest_more refl q (g.rest_more refl s g.rest_end (sym (append-nil c))) refl) refl

-- `a or b`
pub or_two : {a b : List Term} {x y : Expr} → Reads a (g.at 7 x) → Reads b (g.at 7 y) → Reads (a ++ t.Or ∷ b) (g.at 8 (e.Or (x ∷ y ∷ [])))
unfolding g.joined
or_two r q = two 7 t.Or r refl q refl

-- ---- primary expressions

-- a primary as a path
pub lone : {ts : List Term} {x : Expr} → Reads ts (g.primary x) → Reads ts (g.at 0 x)
lone {ts} r = g.filter r g.preds_end (sym (append-nil ts))

pub number_reads : (n : ℕ) → Reads (p.number n ∷ []) (g.at 0 (number n))
number_reads n = lone g.number

pub literal_reads : (s : List ℕ) → Reads (t.Literal s ∷ []) (g.at 0 (e.Literal s))
literal_reads s = lone g.literal

-- in round brackets
pub round : {ts : List Term} {x : Expr} → Reads ts (g.at 8 x) → Reads (p.in_round ts) (g.at 0 x)
round r = lone (g.round r)

pub call_one : {a : List Term} {x : Expr} (h : Func) → Reads a (g.at 8 x) → Reads (p.call h a) (g.at 0 (e.Call h (x ∷ [])))
call_one h r = lone (g.call (g.args_one r))

pub call_two : {a b : List Term} {x y : Expr} (h : Func) → Reads a (g.at 8 x) → Reads b (g.at 8 y) → Reads (p.call h (a ++ t.Comma ∷ b)) (g.at 0 (e.Call h (x ∷ y ∷ [])))
call_two h r q = lone (g.call (g.args_more r (g.args_one q) refl))

pub call_three : {a b c : List Term} {x y z : Expr} (h : Func) → Reads a (g.at 8 x) → Reads b (g.at 8 y) → Reads c (g.at 8 z)
    → Reads (p.call h (a ++ t.Comma ∷ (b ++ t.Comma ∷ c))) (g.at 0 (e.Call h (x ∷ y ∷ z ∷ [])))
call_three h r q s = lone (g.call (g.args_more r (g.args_more q (g.args_one s) refl) refl))

-- ---- predicates

-- terms that put these predicates in front of others
pub record Brackets (ts : List Term) (xs : List Expr) : Type 0 where
  pub front : (b : List Term) (ys : List Expr) → Reads b (g.preds ys) → Reads (ts ++ b) (g.preds (xs ++ ys))

pub no_brackets : Brackets [] []
no_brackets = record { front = λ b ys r. r }

pub bracket : {a : List Term} {x : Expr} → Reads a (g.at 8 x) → Brackets (p.in_square a) (x ∷ [])
bracket {a} r = record { front = λ b ys q. g.preds_more r q (append_assoc a (t.CloseSquare ∷ []) b) }

pub join : {s u : List Term} {xs ys : List Expr} → Brackets s xs → Brackets u ys → Brackets (s ++ u) (xs ++ ys)
join {s} {u} {xs} {ys} h k = record {
  front = λ b zs r.
      let P : List Term → Type 0 = λ ts. Reads ts (g.preds ((xs ++ ys) ++ zs)) in
      let Q : List Expr → Type 0 = λ es. Reads (s ++ (u ++ b)) (g.preds es) in
      subst P (sym (append_assoc s u b)) (subst Q (sym (append_assoc xs ys zs)) (h.front (u ++ b) (ys ++ zs) (k.front b zs r)));
}

pub all_of : {A : Type 0} (f : A → List Term) (h : A → List Expr) → ((x : A) → Brackets (f x) (h x)) → (xs : List A) → Brackets (flat_map f xs) (flat_map h xs)
all_of f h each [] = no_brackets
all_of f h each (x ∷ xs) = join (each x) (all_of f h each xs)

pub each_one : {A : Type 0} (f : A → List Term) (h : A → Expr) → ((x : A) → Brackets (f x) (h x ∷ [])) → (xs : List A) → Brackets (flat_map f xs) (map h xs)
each_one f h each [] = no_brackets
each_one f h each (x ∷ xs) = join (each x) (each_one f h each xs)

-- `[0]`
pub nowhere_reads : Brackets p.nowhere (number 0 ∷ [])
nowhere_reads = bracket (whole (number_reads 0))

-- ---- node tests and steps

-- terms of a node test with predicates behind it
pub record Tested (ts : List Term) (n : NodeTest) (ps : List Expr) : Type 0 where
  pub names : List Term
  pub more : List Term
  pub split : ts ≡ names ++ more
  pub test : Reads names (g.test n)
  pub brackets : Brackets more ps

pub tested : {ts : List Term} {n : NodeTest} → Reads ts (g.test n) → Tested ts n []
tested {ts} r = record { names = ts; more = []; split = sym (append-nil ts); test = r; brackets = no_brackets }

-- and further predicates
pub with : {ts us : List Term} {n : NodeTest} {ps qs : List Expr} → Tested ts n ps → Brackets us qs → Tested (ts ++ us) n (ps ++ qs)
with {ts} {us} h k = record {
  names = h.names;
  more = h.more ++ us;
  split = ap (λ v. v ++ us) h.split ∙ append_assoc h.names h.more us;
  test = h.test;
  brackets = join h.brackets k;
}

all_brackets : {ts : List Term} {ps : List Expr} → Brackets ts ps → Reads ts (g.preds ps)
all_brackets {ts} {ps} h =
    let P : List Term → Type 0 = λ v. Reads v (g.preds ps) in
    let Q : List Expr → Type 0 = λ v. Reads (ts ++ []) (g.preds v) in
    subst P (append-nil ts) (subst Q (append-nil ps) (h.front [] [] g.preds_end))

pub axis_step : {ts : List Term} {n : NodeTest} {ps : List Expr} (a : Axis) → Tested ts n ps → Reads (p.on_axis a ts) (g.step (step a n ps))
axis_step a h = g.step_axis h.test (all_brackets h.brackets) h.split

pub child_step : {ts : List Term} {n : NodeTest} {ps : List Expr} → Tested ts n ps → Reads ts (g.step (step axis.Child n ps))
child_step h = g.step_child h.test (all_brackets h.brackets) h.split

pub at_step : {ts : List Term} {n : NodeTest} {ps : List Expr} → Tested ts n ps → Reads (t.At ∷ ts) (g.step (step axis.Attribute n ps))
at_step h = g.step_attribute h.test (all_brackets h.brackets) h.split

-- a path of one step
pub single : {ts : List Term} {s : Step} → Reads ts (g.step s) → Reads ts (g.at 0 (e.Path start.Here (s ∷ [])))
single r = g.path_here (g.steps_one r)

pub any_tested : Tested (t.AnyName ∷ []) node.AnyName []
any_tested = tested g.any_name

pub name_tested : (n : List ℕ) → Tested (t.Name n ∷ []) (node.Name n) []
name_tested n = tested g.name

pub text_tested : Tested (t.NodeType node_type.Text ∷ t.OpenRound ∷ t.CloseRound ∷ []) node.Text []
text_tested = tested g.of_type
