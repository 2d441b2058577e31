-- The types of expressions, by their forms.
use Rattle.std.proofs.Common.{◌≡◌, refl, sym, ◌∙◌, ap, Bool, true, ◌&&◌, List, [], ◌∷◌, ◌++◌, map, ℕ}
use Rattle.std.specs.Prelude.{ℤ}
use Rattle.std.specs.List.{list_all, flat_map}
use Rattle.doc_model.specs.declared.Axis.{Axis}
use Rattle.doc_model.specs.declared.NodeTest.{NodeTest}
use Rattle.xpath_values.specs.declared.value.Shape.{Shape}
use Rattle.xpath_values.specs.declared.value.Shape.TheVariants as shape
use Rattle.xpath_parser.specs.declared.expression.Expr.{Expr}
use Rattle.xpath_parser.specs.declared.expression.Expr.TheVariants as e
use Rattle.xpath_parser.specs.declared.expression.Expr.TheOpen as open_
use Rattle.xpath_parser.specs.declared.expression.Expr.TheFolds.{fold-roll-Expr, fold-roll-Operand}
use Rattle.xpath_parser.specs.declared.expression.Func.{Func}
use Rattle.xpath_parser.specs.declared.expression.Infix.{Infix}
use Rattle.xpath_parser.specs.declared.expression.Operand.{roll-Operand}
use Rattle.xpath_parser.specs.Shapes.{Typing, typing, expr_typing, start_typing, operand_typing, step_typing, infix_shape, function_shape, is_nodes}
use Rattle.css_printed.specs.inner.Predicates.{step, path, joins}
use Rattle.css_printed.proofs.Typed.{step_right, path_typing, right_step}

abbrev Arm : Type 0
Arm = Infix × Typing

-- ---- the typing at each form

pub literal_typing : (v : List ℕ) → typing (e.Literal v) ≡ record { shape = shape.Str; right = true }
unfolding typing
literal_typing v = ap typing (sym (e.rolls-Literal v)) ∙ fold-roll-Expr Typing Bool Arm Bool expr_typing start_typing operand_typing step_typing (open_.Literal v)

pub number_typing : (n : ℤ) → typing (e.Number n) ≡ record { shape = shape.Num; right = true }
unfolding typing
number_typing n = ap typing (sym (e.rolls-Number n)) ∙ fold-roll-Expr Typing Bool Arm Bool expr_typing start_typing operand_typing step_typing (open_.Number n)

pub call_typing : (h : Func) (xs : List Expr) → typing (e.Call h xs) ≡ expr_typing (open_.Call h (map typing xs))
unfolding typing
call_typing h xs = ap typing (sym (e.rolls-Call h xs)) ∙ fold-roll-Expr Typing Bool Arm Bool expr_typing start_typing operand_typing step_typing (open_.Call h xs)

pub or_typing : (xs : List Expr) → typing (e.Or xs) ≡ record { shape = shape.Bool; right = list_all (λ e. e.right) (map typing xs) }
unfolding typing
or_typing xs = ap typing (sym (e.rolls-Or xs)) ∙ fold-roll-Expr Typing Bool Arm Bool expr_typing start_typing operand_typing step_typing (open_.Or xs)

pub and_typing : (xs : List Expr) → typing (e.And xs) ≡ record { shape = shape.Bool; right = list_all (λ e. e.right) (map typing xs) }
unfolding typing
and_typing xs = ap typing (sym (e.rolls-And xs)) ∙ fold-roll-Expr Typing Bool Arm Bool expr_typing start_typing operand_typing step_typing (open_.And xs)

pub union_typing : (xs : List Expr) → typing (e.Union xs) ≡ record { shape = shape.Nodes; right = list_all (λ e. e.right && is_nodes e.shape) (map typing xs) }
unfolding typing
union_typing xs = ap typing (sym (e.rolls-Union xs)) ∙ fold-roll-Expr Typing Bool Arm Bool expr_typing start_typing operand_typing step_typing (open_.Union xs)

pub joins_typing : (i : Infix) (x y : Expr) → typing (joins i x y) ≡ record { shape = infix_shape i; right = (typing x).right && ((typing y).right && true) }
unfolding typing
joins_typing i x y =
    ap typing (sym (e.rolls-Joined x (roll-Operand (record { op = i; value = y }) ∷ [])))
    ∙ fold-roll-Expr Typing Bool Arm Bool expr_typing start_typing operand_typing step_typing (open_.Joined x (roll-Operand (record { op = i; value = y }) ∷ []))
    ∙ ap (λ (o : Arm). record { shape = infix_shape o.0; right = (typing x).right && (o.1.right && true) })
    (fold-roll-Operand Typing Bool Arm Bool expr_typing start_typing operand_typing step_typing (record { op = i; value = y }))

-- ---- expressions that are typed right

abbrev pub typed : Shape → Typing
typed s = record { shape = s; right = true }

pub record Typed (x : Expr) (s : Shape) : Type 0 where
  pub is : typing x ≡ typed s

pub literal_typed : (v : List ℕ) → Typed (e.Literal v) shape.Str
literal_typed v = record { is = literal_typing v }

pub number_typed : (n : ℤ) → Typed (e.Number n) shape.Num
number_typed n = record { is = number_typing n }

pub call_none : (h : Func) → expr_typing (open_.Call h []) ≡ typed (function_shape h) → Typed (e.Call h []) (function_shape h)
call_none h q = record { is = call_typing h [] ∙ q }

pub call_one : {x : Expr} {s : Shape} (h : Func) → Typed x s → expr_typing (open_.Call h (typed s ∷ [])) ≡ typed (function_shape h) → Typed (e.Call h (x ∷ [])) (function_shape h)
call_one {x} h a q = record { is = call_typing h (x ∷ []) ∙ ap (λ t. expr_typing (open_.Call h (t ∷ []))) a.is ∙ q }

pub call_two : {x y : Expr} {s u : Shape} (h : Func) → Typed x s → Typed y u → expr_typing (open_.Call h (typed s ∷ typed u ∷ [])) ≡ typed (function_shape h)
    → Typed (e.Call h (x ∷ y ∷ [])) (function_shape h)
call_two {x} {y} {s} h a b q = record {
  is =
      call_typing h (x ∷ y ∷ []) ∙ ap (λ t. expr_typing (open_.Call h (t ∷ typing y ∷ []))) a.is
      ∙ ap (λ t. expr_typing (open_.Call h (typed s ∷ t ∷ []))) b.is ∙ q;
}

pub call_three : {x y z : Expr} {s u v : Shape} (h : Func) → Typed x s → Typed y u → Typed z v → expr_typing (open_.Call h (typed s ∷ typed u ∷ typed v ∷ [])) ≡ typed (function_shape h)
    → Typed (e.Call h (x ∷ y ∷ z ∷ [])) (function_shape h)
call_three {x} {y} {z} {s} {u} h a b c q = record {
  is =
      call_typing h (x ∷ y ∷ z ∷ []) ∙ ap (λ t. expr_typing (open_.Call h (t ∷ typing y ∷ typing z ∷ []))) a.is
      ∙ ap (λ t. expr_typing (open_.Call h (typed s ∷ t ∷ typing z ∷ []))) b.is
      ∙ ap (λ t. expr_typing (open_.Call h (typed s ∷ typed u ∷ t ∷ []))) c.is ∙ q;
}

pub joins_typed : {x y : Expr} {s u : Shape} (i : Infix) → Typed x s → Typed y u → Typed (joins i x y) (infix_shape i)
joins_typed {x} {y} i a b = record {
  is =
      joins_typing i x y ∙ ap (λ (t : Typing). record { shape = infix_shape i; right = t.right && ((typing y).right && true) }) a.is
      ∙ ap (λ (t : Typing). record { shape = infix_shape i; right = t.right && true }) b.is;
}

-- ---- predicates that are typed right

pub record AllRight (xs : List Expr) : Type 0 where
  pub all : list_all (λ e. e.right) (map typing xs) ≡ true

pub no_expression : AllRight []
no_expression = record { all = refl }

pub front : {x : Expr} {s : Shape} {xs : List Expr} → Typed x s → AllRight xs → AllRight (x ∷ xs)
front {x} {s} {xs} a h = record { all = ap (λ (t : Typing). t.right && list_all (λ e. e.right) (map typing xs)) a.is ∙ h.all }

pub one : {x : Expr} {s : Shape} → Typed x s → AllRight (x ∷ [])
one a = front a no_expression

joined_all : (xs ys : List Expr) → list_all (λ e. e.right) (map typing ys) ≡ true → list_all (λ e. e.right) (map typing (xs ++ ys)) ≡ list_all (λ e. e.right) (map typing xs)
joined_all [] ys h = h
joined_all (x ∷ xs) ys h = ap (λ b. (typing x).right && b) (joined_all xs ys h)

pub join : {xs ys : List Expr} → AllRight xs → AllRight ys → AllRight (xs ++ ys)
join {xs} {ys} h k = record { all = joined_all xs ys k.all ∙ h.all }

pub all_of : {A : Type 0} (f : A → List Expr) → ((x : A) → AllRight (f x)) → (xs : List A) → AllRight (flat_map f xs)
all_of f each [] = no_expression
all_of f each (x ∷ xs) = join (each x) (all_of f each xs)

pub each_one : {A : Type 0} (f : A → Expr) → ((x : A) → AllRight (f x ∷ [])) → (xs : List A) → AllRight (map f xs)
each_one f each [] = no_expression
each_one f each (x ∷ xs) = join (each x) (each_one f each xs)

pub or_typed : {xs : List Expr} → AllRight xs → Typed (e.Or xs) shape.Bool
or_typed {xs} h = record { is = or_typing xs ∙ ap (λ b. record { shape = shape.Bool; right = b }) h.all }

pub and_typed : {xs : List Expr} → AllRight xs → Typed (e.And xs) shape.Bool
and_typed {xs} h = record { is = and_typing xs ∙ ap (λ b. record { shape = shape.Bool; right = b }) h.all }

-- ---- steps and paths

pub step_typed : {ps : List Expr} (a : Axis) (n : NodeTest) → AllRight ps → step_right (step a n ps) ≡ true
step_typed {ps} a n h = right_step a n ps ∙ h.all

pub path_typed : {ps : List Expr} (a : Axis) (n : NodeTest) → AllRight ps → Typed (path a n ps) shape.Nodes
path_typed {ps} a n h = record { is = path_typing (step a n ps ∷ []) ∙ ap (λ b. record { shape = shape.Nodes; right = b && true }) (step_typed a n h) }
