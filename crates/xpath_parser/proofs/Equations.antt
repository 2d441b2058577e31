-- The denotation at each form.
use Rattle.std.proofs.Common.{◌≡◌, refl, sym, ◌∙◌, ap, ℕ, Bool, ◌&&◌, ◌||◌, List, [], ◌∷◌, map, ℤ, cond}
use Rattle.std.specs.Prelude.{filter}
use Rattle.std.specs.List.{list_any, list_all}
use Rattle.doc_model.specs.Document.{Document, rows}
use Rattle.doc_model.specs.Axes.{axis_list}
use Rattle.doc_model.specs.declared.Axis.{Axis}
use Rattle.doc_model.specs.declared.NodeTest.{NodeTest}
use Rattle.xpath_parser.specs.declared.expression.Func.{Func}
use Rattle.xpath_parser.specs.declared.expression.Infix.{Infix}
use Rattle.xpath_parser.specs.declared.expression.Expr.{Expr}
use Rattle.xpath_parser.specs.declared.expression.Expr.TheVariants as e
use Rattle.xpath_parser.specs.declared.expression.Expr.TheOpen as open_
use Rattle.xpath_parser.specs.declared.expression.Expr.TheFolds.{fold-roll-Expr, fold-roll-Step, fold_out-Step, fold-roll-Start, fold_out-Operand, fold-roll-Operand}
use Rattle.xpath_parser.specs.declared.expression.Expr.TheViews.{rolls-Here, rolls-Root, rolls-From}
use Rattle.xpath_parser.specs.declared.expression.Start.{Start}
use Rattle.xpath_parser.specs.declared.expression.Start.TheVariants.{Here, Root, From}
use Rattle.xpath_parser.specs.declared.expression.Step.{Step, out-Step, roll-Step}
use Rattle.xpath_parser.specs.declared.expression.Operand.{Operand, roll-Operand}
use Rattle.xpath_values.specs.declared.value.Value.{Value}
use Rattle.xpath_values.specs.declared.value.Value.TheVariants.{Nodes, Num, Str, Bool as Truth}
use Rattle.xpath_values.specs.Numbers.{whole}
use Rattle.xpath_parser.specs.Conversions.{rows_of, truth_of, number_of}
use Rattle.xpath_parser.specs.Functions.{Context, called}
use Rattle.xpath_parser.specs.Denote as d
use Rattle.xpath_parser.specs.Denote.{denote, walk_of, start_of, arm_of, arm_at, kept, path, rows_in, joined, applied, has, Meaning, signed}

any_map : {A B : Type 0} (g : A → B) (t : B → Bool) (xs : List A) → list_any t (map g xs) ≡ list_any (λ x. t (g x)) xs
any_map g t [] = refl
any_map g t (x ∷ xs) = ap (λ b. t (g x) || b) (any_map g t xs)

pub all_map : {A B : Type 0} (g : A → B) (t : B → Bool) (xs : List A) → list_all t (map g xs) ≡ list_all (λ x. t (g x)) xs
all_map g t [] = refl
all_map g t (x ∷ xs) = ap (λ b. t (g x) && b) (all_map g t xs)

map_twice : {A B C : Type 0} (g : A → B) (f : B → C) (xs : List A) → map f (map g xs) ≡ map (λ x. f (g x)) xs
map_twice g f [] = refl
map_twice g f (x ∷ xs) = ap (λ r. f (g x) ∷ r) (map_twice g f xs)

map_same : {A B : Type 0} (f g : A → B) → ((x : A) → f x ≡ g x) → (xs : List A) → map f xs ≡ map g xs
map_same f g h [] = refl
map_same f g h (x ∷ xs) = ap (λ v. v ∷ map f xs) (h x) ∙ ap (λ r. g x ∷ r) (map_same f g h xs)

same_tests : (p q : ℕ → Bool) → ((y : ℕ) → p y ≡ q y) → (xs : List ℕ) → filter p xs ≡ filter q xs
same_tests p q h [] = refl
same_tests p q h (x ∷ xs) = ap (λ b. cond b (x ∷ filter p xs) (filter p xs)) (h x) ∙ ap (λ r. cond (q x) (x ∷ r) r) (same_tests p q h xs)

module _ (doc : Document) where
  pub at_or : (es : List Expr) (c : Context) → denote doc (e.Or es) c ≡ Truth (list_any (λ x. truth_of (denote doc x c)) es)
  unfolding denote walk_of start_of arm_of
  at_or es c = ap (λ x. denote doc x c) (sym (e.rolls-Or es)) ∙ ap (λ m. m c) (fold-roll-Expr d.Meaning (d.FromStart doc) (d.Arm doc) d.Walk (d.expr_step doc) (d.start_step doc) (d.operand_step doc) (d.walk_step doc) (open_.Or es)) ∙ ap Truth (any_map (denote doc) (λ m. truth_of (m c)) es)

  pub at_and : (es : List Expr) (c : Context) → denote doc (e.And es) c ≡ Truth (list_all (λ x. truth_of (denote doc x c)) es)
  unfolding denote walk_of start_of arm_of
  at_and es c = ap (λ x. denote doc x c) (sym (e.rolls-And es)) ∙ ap (λ m. m c) (fold-roll-Expr d.Meaning (d.FromStart doc) (d.Arm doc) d.Walk (d.expr_step doc) (d.start_step doc) (d.operand_step doc) (d.walk_step doc) (open_.And es)) ∙ ap Truth (all_map (denote doc) (λ m. truth_of (m c)) es)

  pub at_operand : (o : Operand) (c : Context) → ◌≡◌ {A = Infix × Value} ((arm_of doc o).0, (arm_of doc o).1 c) (arm_at doc o c)
  unfolding denote walk_of start_of arm_of
  at_operand o c = ap {B = Infix × Value} (λ m. (m.0, m.1 c)) (fold_out-Operand d.Meaning (d.FromStart doc) (d.Arm doc) d.Walk (d.expr_step doc) (d.start_step doc) (d.operand_step doc) (d.walk_step doc) o)

  pub at_joined : (first : Expr) (ops : List Operand) (c : Context) → denote doc (e.Joined first ops) c ≡ joined doc (denote doc first c) (map (λ o. arm_at doc o c) ops)
  unfolding denote walk_of start_of arm_of
  at_joined first ops c = ap (λ x. denote doc x c) (sym (e.rolls-Joined first ops)) ∙ ap (λ m. m c) (fold-roll-Expr d.Meaning (d.FromStart doc) (d.Arm doc) d.Walk (d.expr_step doc) (d.start_step doc) (d.operand_step doc) (d.walk_step doc) (open_.Joined first ops)) ∙ ap (joined doc (denote doc first c)) (map_twice (arm_of doc) (λ p. (p.0, p.1 c)) ops ∙ map_same (λ o. ((arm_of doc o).0, (arm_of doc o).1 c)) (λ o. arm_at doc o c) (λ o. at_operand o c) ops)

  pub at_minus : (n : ℕ) (x : Expr) (c : Context) → denote doc (e.Minus n x) c ≡ Num (signed n (number_of doc (denote doc x c)))
  unfolding denote walk_of start_of arm_of
  at_minus n x c = ap (λ x. denote doc x c) (sym (e.rolls-Minus n x)) ∙ ap (λ m. m c) (fold-roll-Expr d.Meaning (d.FromStart doc) (d.Arm doc) d.Walk (d.expr_step doc) (d.start_step doc) (d.operand_step doc) (d.walk_step doc) (open_.Minus n x))

  rows_map : {A B : Type 0} (g : A → B) (list_at : B → List ℕ) (xs : List A) → rows_in doc (map g xs) list_at ≡ rows_in doc xs (λ x. list_at (g x))
  unfolding rows_in
  rows_map g list_at xs = same_tests _ _ (λ y. any_map g (λ x. has y (list_at x)) xs) (rows doc)

  pub at_union : (es : List Expr) (c : Context) → denote doc (e.Union es) c ≡ Nodes (rows_in doc es (λ x. rows_of (denote doc x c)))
  unfolding denote walk_of start_of arm_of
  at_union es c = ap (λ x. denote doc x c) (sym (e.rolls-Union es)) ∙ ap (λ m. m c) (fold-roll-Expr d.Meaning (d.FromStart doc) (d.Arm doc) d.Walk (d.expr_step doc) (d.start_step doc) (d.operand_step doc) (d.walk_step doc) (open_.Union es)) ∙ ap Nodes (rows_map (denote doc) (λ m. rows_of (m c)) es)

  pub at_path : (start : Start) (ss : List Step) (c : Context) → denote doc (e.Path start ss) c ≡ Nodes (path doc (start_of doc start c) (map (walk_of doc) ss))
  unfolding denote walk_of start_of arm_of
  at_path start ss c = ap (λ x. denote doc x c) (sym (e.rolls-Path start ss)) ∙ ap (λ m. m c) (fold-roll-Expr d.Meaning (d.FromStart doc) (d.Arm doc) d.Walk (d.expr_step doc) (d.start_step doc) (d.operand_step doc) (d.walk_step doc) (open_.Path start ss))

  pub at_filter : (x : Expr) (ps : List Expr) (c : Context) → denote doc (e.Filter x ps) c ≡ Nodes (kept (map (denote doc) ps) (rows_of (denote doc x c)))
  unfolding denote walk_of start_of arm_of
  at_filter x ps c = ap (λ x. denote doc x c) (sym (e.rolls-Filter x ps)) ∙ ap (λ m. m c) (fold-roll-Expr d.Meaning (d.FromStart doc) (d.Arm doc) d.Walk (d.expr_step doc) (d.start_step doc) (d.operand_step doc) (d.walk_step doc) (open_.Filter x ps))

  pub at_literal : (t : List ℕ) (c : Context) → denote doc (e.Literal t) c ≡ Str t
  unfolding denote walk_of start_of arm_of
  at_literal t c = ap (λ x. denote doc x c) (sym (e.rolls-Literal t)) ∙ ap (λ m. m c) (fold-roll-Expr d.Meaning (d.FromStart doc) (d.Arm doc) d.Walk (d.expr_step doc) (d.start_step doc) (d.operand_step doc) (d.walk_step doc) (open_.Literal t))

  pub at_number : (n : ℤ) (c : Context) → denote doc (e.Number n) c ≡ Num (whole n)
  unfolding denote walk_of start_of arm_of
  at_number n c = ap (λ x. denote doc x c) (sym (e.rolls-Number n)) ∙ ap (λ m. m c) (fold-roll-Expr d.Meaning (d.FromStart doc) (d.Arm doc) d.Walk (d.expr_step doc) (d.start_step doc) (d.operand_step doc) (d.walk_step doc) (open_.Number n))

  pub at_call : (f : Func) (es : List Expr) (c : Context) → denote doc (e.Call f es) c ≡ called doc f (map (λ x. denote doc x c) es) c
  unfolding denote walk_of start_of arm_of
  at_call f es c = ap (λ x. denote doc x c) (sym (e.rolls-Call f es)) ∙ ap (λ m. m c) (fold-roll-Expr d.Meaning (d.FromStart doc) (d.Arm doc) d.Walk (d.expr_step doc) (d.start_step doc) (d.operand_step doc) (d.walk_step doc) (open_.Call f es)) ∙ ap (λ vs. called doc f vs c) (map_twice (denote doc) (λ m. m c) es)

  pub at_here : (c : Context) → start_of doc Here c ≡ c.row ∷ []
  unfolding start_of
  at_here c = ap (λ x. start_of doc x c) (sym rolls-Here) ∙ ap (λ m. m c) (fold-roll-Start d.Meaning (d.FromStart doc) (d.Arm doc) d.Walk (d.expr_step doc) (d.start_step doc) (d.operand_step doc) (d.walk_step doc) open_.Here)

  pub at_root : (c : Context) → start_of doc Root c ≡ 0 ∷ []
  unfolding start_of
  at_root c = ap (λ x. start_of doc x c) (sym rolls-Root) ∙ ap (λ m. m c) (fold-roll-Start d.Meaning (d.FromStart doc) (d.Arm doc) d.Walk (d.expr_step doc) (d.start_step doc) (d.operand_step doc) (d.walk_step doc) open_.Root)

  pub at_from : (x : Expr) (c : Context) → start_of doc (From x) c ≡ rows_of (denote doc x c)
  unfolding start_of denote
  at_from x c = ap (λ v. start_of doc v c) (sym (rolls-From x)) ∙ ap (λ m. m c) (fold-roll-Start d.Meaning (d.FromStart doc) (d.Arm doc) d.Walk (d.expr_step doc) (d.start_step doc) (d.operand_step doc) (d.walk_step doc) (open_.From x))

  pub at_step : (s : Step) (x : ℕ) → walk_of doc s x ≡ kept (map (denote doc) (out-Step s).predicates) (axis_list doc x (out-Step s).axis (out-Step s).test)
  unfolding walk_of denote
  at_step s x = ap (λ m. m x) (fold_out-Step d.Meaning (d.FromStart doc) (d.Arm doc) d.Walk (d.expr_step doc) (d.start_step doc) (d.operand_step doc) (d.walk_step doc) s)

  pub at_made : (a : Axis) (t : NodeTest) (es : List Expr) (x : ℕ) → walk_of doc (roll-Step (record { axis = a; test = t; predicates = es })) x ≡ kept (map (denote doc) es) (axis_list doc x a t)
  unfolding walk_of denote start_of arm_of
  at_made a t es x = ap (λ m. m x) (fold-roll-Step d.Meaning (d.FromStart doc) (d.Arm doc) d.Walk (d.expr_step doc) (d.start_step doc) (d.operand_step doc) (d.walk_step doc) (record { axis = a; test = t; predicates = es }))

  pub at_joined_one : (a b : Expr) (op : Infix) (c : Context) → denote doc (e.Joined a (roll-Operand (record { op = op; value = b }) ∷ [])) c ≡ applied doc op (denote doc a c) (denote doc b c)
  unfolding denote walk_of start_of arm_of
  at_joined_one a b op c = ap (λ x. denote doc x c) (sym (e.rolls-Joined a (roll-Operand (record { op = op; value = b }) ∷ [])))
      ∙ ap (λ m. m c) (fold-roll-Expr d.Meaning (d.FromStart doc) (d.Arm doc) d.Walk (d.expr_step doc) (d.start_step doc) (d.operand_step doc) (d.walk_step doc) (open_.Joined a (roll-Operand (record { op = op; value = b }) ∷ [])))
      ∙ ap (λ o. applied doc o.0 (denote doc a c) (o.1 c)) (fold-roll-Operand d.Meaning (d.FromStart doc) (d.Arm doc) d.Walk (d.expr_step doc) (d.start_step doc) (d.operand_step doc) (d.walk_step doc) (record { op = op; value = b }))
