-- The values of expressions at a row, whatever its position.
use Rattle.std.proofs.Common.{◌≡◌, refl, ℕ, suc, Bool, true, false, ◌&&◌, ◌||◌, not, cond, List, [], ◌∷◌, ap, ◌∙◌, filter, ℤ, arith}
use Rattle.std.specs.Prelude.{pos}
use Rattle.std.specs.Ordering.{int_eq}
use Rattle.std.specs.Cmp.{signed_Decides}
use Rattle.std.proofs.lemmas.Bool.{false_from_ne_true}
use Rattle.std.specs.List.{list_any, list_all}
use Rattle.doc_model.specs.declared.Axis.{Axis}
use Rattle.doc_model.specs.declared.NodeTest.{NodeTest}
use Rattle.doc_model.specs.Document.{Document, rows}
use Rattle.doc_model.specs.Axes.{on_axis, passes}
use Rattle.css_meaning.proofs.ListTests as lists
use Rattle.xpath_values.specs.declared.value.Value.{Value}
use Rattle.xpath_values.specs.declared.value.Value.TheVariants.{Nodes, Num, Bool as Truth}
use Rattle.xpath_values.specs.Numbers.{whole}
use Rattle.xpath_parser.specs.declared.expression.Func.{Func}
use Rattle.xpath_parser.specs.declared.expression.Func.TheVariants as f
use Rattle.xpath_parser.specs.declared.expression.Infix.{Infix}
use Rattle.xpath_parser.specs.declared.expression.Expr.{Expr}
use Rattle.xpath_parser.specs.declared.expression.Expr.TheVariants as e
use Rattle.xpath_parser.specs.declared.expression.Start.TheVariants.{Here}
use Rattle.xpath_parser.specs.Conversions.{is_any, truth_of}
use Rattle.xpath_parser.specs.Functions.{called}
use Rattle.xpath_parser.specs.Denote.{path as walked, keeps, rows_in, denote, walk_of, applied}
use Rattle.xpath_parser.proofs.Equations as eq
use Rattle.css_printed.specs.inner.Predicates.{step, path, joins, number, both}
use Rattle.css_printed.proofs.PathsKept.{Is, Keep, keep_none, step_has}

pub any_kept : (p : ℕ → Bool) (xs : List ℕ) → is_any (filter p xs) ≡ list_any p xs
any_kept p [] = refl
any_kept p (x ∷ xs) = elim (p x) as (λ b. is_any (cond b (x ∷ filter p xs) (filter p xs)) ≡ (b || list_any p xs)) [ true ↦ refl | false ↦ any_kept p xs ]

module _ (doc : Document) where
  -- the value at x, whatever the position
  abbrev pub Value_at : Expr → ℕ → Value → Type 0
  Value_at e x v = (at size : ℕ) → denote doc e (record { row = x; position = at; size = size }) ≡ v

  pub is_truth : (e : Expr) (x : ℕ) (b : Bool) → Value_at e x (Truth b) → Is doc e x b
  is_truth e x b h at size = ap (keeps (suc at)) (h (suc at) size)

  pub is_nodes : (e : Expr) (x : ℕ) (xs : List ℕ) → Value_at e x (Nodes xs) → Is doc e x (is_any xs)
  is_nodes e x xs h at size = ap (keeps (suc at)) (h (suc at) size)

  pub at_number : (n : ℤ) (x : ℕ) → Value_at (e.Number n) x (Num (whole n))
  at_number n x at size = eq.at_number doc n (record { row = x; position = at; size = size })

  pub at_two : (a b : Expr) (op : Infix) (x : ℕ) (v w : Value) → Value_at a x v → Value_at b x w
      → Value_at (joins op a b) x (applied doc op v w)
  at_two a b op x v w h k at size =
      eq.at_joined_one doc a b op (record { row = x; position = at; size = size })
      ∙ ap (λ u. applied doc op u (denote doc b (record { row = x; position = at; size = size }))) (h at size) ∙ ap (applied doc op v) (k at size)

  pub at_not : (a : Expr) (x : ℕ) (v : Value) → Value_at a x v → Value_at (e.Call f.Not (a ∷ [])) x (Truth (not (truth_of v)))
  at_not a x v h at size = eq.at_call doc f.Not (a ∷ []) (record { row = x; position = at; size = size }) ∙ ap (λ u. Truth (not (truth_of u))) (h at size)

  -- functions of one, two and three arguments
  pub at_call_one : (g : Func) (a : Expr) (x : ℕ) (v : Value) → Value_at a x v → (at size : ℕ)
      → denote doc (e.Call g (a ∷ [])) (record { row = x; position = at; size = size }) ≡ called doc g (v ∷ []) (record { row = x; position = at; size = size })
  at_call_one g a x v h at size =
      eq.at_call doc g (a ∷ []) (record { row = x; position = at; size = size })
      ∙ ap (λ u. called doc g (u ∷ []) (record { row = x; position = at; size = size })) (h at size)

  pub at_call_two : (g : Func) (a b : Expr) (x : ℕ) (v w : Value) → Value_at a x v → Value_at b x w → (at size : ℕ)
      → denote doc (e.Call g (a ∷ b ∷ [])) (record { row = x; position = at; size = size }) ≡ called doc g (v ∷ w ∷ []) (record { row = x; position = at; size = size })
  at_call_two g a b x v w h k at size =
      eq.at_call doc g (a ∷ b ∷ []) (record { row = x; position = at; size = size })
      ∙ ap (λ u. called doc g (u ∷ denote doc b (record { row = x; position = at; size = size }) ∷ []) (record { row = x; position = at; size = size })) (h at size)
      ∙ ap (λ u. called doc g (v ∷ u ∷ []) (record { row = x; position = at; size = size })) (k at size)

  pub at_call_three : (g : Func) (a b c : Expr) (x : ℕ) (u v w : Value) → Value_at a x u → Value_at b x v → Value_at c x w → (at size : ℕ)
      → denote doc (e.Call g (a ∷ b ∷ c ∷ [])) (record { row = x; position = at; size = size }) ≡ called doc g (u ∷ v ∷ w ∷ []) (record { row = x; position = at; size = size })
  at_call_three g a b c x u v w h k l at size =
      eq.at_call doc g (a ∷ b ∷ c ∷ []) (record { row = x; position = at; size = size })
      ∙ ap (λ t. called doc g (t ∷ denote doc b (record { row = x; position = at; size = size }) ∷ denote doc c (record { row = x; position = at; size = size }) ∷ []) (record { row = x; position = at; size = size })) (h at size)
      ∙ ap (λ t. called doc g (u ∷ t ∷ denote doc c (record { row = x; position = at; size = size }) ∷ []) (record { row = x; position = at; size = size })) (k at size)
      ∙ ap (λ t. called doc g (u ∷ v ∷ t ∷ []) (record { row = x; position = at; size = size })) (l at size)

  -- `and` and `or` of any number of operands
  abbrev pub Truths_at : List Expr → ℕ → List Bool → Type 0
  Truths_at [] x [] = Unit {0}
  Truths_at [] x (b ∷ bs) = ⊥
  Truths_at (a ∷ es) x [] = ⊥
  Truths_at (a ∷ es) x (b ∷ bs) = ((at size : ℕ) → truth_of (denote doc a (record { row = x; position = at; size = size })) ≡ b) × Truths_at es x bs

  abbrev pub one_of : List Bool → Bool
  one_of [] = false
  one_of (b ∷ bs) = b || one_of bs

  abbrev pub all_of : List Bool → Bool
  all_of [] = true
  all_of (b ∷ bs) = b && all_of bs

  some_true : (es : List Expr) (x : ℕ) (bs : List Bool) (at size : ℕ) → Truths_at es x bs → list_any (λ a. truth_of (denote doc a (record { row = x; position = at; size = size }))) es ≡ one_of bs
  some_true [] x [] at size h = refl
  some_true [] x (b ∷ bs) at size h = absurd h
  some_true (a ∷ es) x [] at size h = absurd h
  some_true (a ∷ es) x (b ∷ bs) at size h =
      ap (λ t. t || list_any (λ a. truth_of (denote doc a (record { row = x; position = at; size = size }))) es) (h.0 at size) ∙ ap (λ t. b || t) (some_true es x bs at size h.1)

  all_true : (es : List Expr) (x : ℕ) (bs : List Bool) (at size : ℕ) → Truths_at es x bs → list_all (λ a. truth_of (denote doc a (record { row = x; position = at; size = size }))) es ≡ all_of bs
  all_true [] x [] at size h = refl
  all_true [] x (b ∷ bs) at size h = absurd h
  all_true (a ∷ es) x [] at size h = absurd h
  all_true (a ∷ es) x (b ∷ bs) at size h =
      ap (λ t. t && list_all (λ a. truth_of (denote doc a (record { row = x; position = at; size = size }))) es) (h.0 at size) ∙ ap (λ t. b && t) (all_true es x bs at size h.1)

  pub at_or : (es : List Expr) (x : ℕ) (bs : List Bool) → Truths_at es x bs → Value_at (e.Or es) x (Truth (one_of bs))
  at_or es x bs h at size = eq.at_or doc es (record { row = x; position = at; size = size }) ∙ ap Truth (some_true es x bs at size h)

  pub at_and : (es : List Expr) (x : ℕ) (bs : List Bool) → Truths_at es x bs → Value_at (e.And es) x (Truth (all_of bs))
  at_and es x bs h at size = eq.at_and doc es (record { row = x; position = at; size = size }) ∙ ap Truth (all_true es x bs at size h)

  pub at_both : (a b : Expr) (x : ℕ) (v w : Value) → Value_at a x v → Value_at b x w → Value_at (both a b) x (Truth (truth_of v && truth_of w))
  at_both a b x v w h k at size =
      at_and (a ∷ b ∷ []) x (truth_of v ∷ truth_of w ∷ []) ((λ i j. ap truth_of (h i j)), ((λ i j. ap truth_of (k i j)), tt)) at size
      ∙ ap (λ t. Truth (truth_of v && t)) (lists.and_true (truth_of w))

  pub at_either : (a b : Expr) (x : ℕ) (v w : Value) → Value_at a x v → Value_at b x w → Value_at (e.Or (a ∷ b ∷ [])) x (Truth (truth_of v || truth_of w))
  at_either a b x v w h k at size =
      at_or (a ∷ b ∷ []) x (truth_of v ∷ truth_of w ∷ []) ((λ i j. ap truth_of (h i j)), ((λ i j. ap truth_of (k i j)), tt)) at size
      ∙ ap (λ t. Truth (truth_of v || t)) (lists.or_false (truth_of w))

  -- the path of one step gives the rows on its axis that pass its node test and its predicates
  pub at_step : (kind : ℕ → Bool) (a : Axis) (t : NodeTest) (es : List Expr) (p : ℕ → Bool) (x : ℕ) → ((z : ℕ) → on_axis doc a x z ≡ true → passes doc a t z ≡ true → kind z ≡ true) → Keep doc kind es p
      → Value_at (path a t es) x (Nodes (filter (λ y. p y && (on_axis doc a x y && passes doc a t y)) (rows doc)))
  unfolding rows_in
  at_step kind a t es p x of_kind keep at size =
      eq.at_path doc Here (step a t es ∷ []) (record { row = x; position = at; size = size })
      ∙ ap (λ xs. Nodes (walked doc xs (walk_of doc (step a t es) ∷ []))) (eq.at_here doc (record { row = x; position = at; size = size }))
      ∙ ap Nodes (lists.filter_among _ _ (rows doc) (λ y among. lists.or_false _ ∙ step_has doc kind a t es p x y of_kind keep among))

  -- and with no predicates
  pub at_bare_step : (a : Axis) (t : NodeTest) (x : ℕ) → Value_at (path a t []) x (Nodes (filter (λ y. on_axis doc a x y && passes doc a t y) (rows doc)))
  at_bare_step a t x = at_step (λ y. true) a t [] (λ y. true) x (λ z h i. refl) (keep_none doc (λ y. true))

  not_zero : (at : ℕ) → int_eq (pos 0) (pos (suc at)) ≡ false
  not_zero at = false_from_ne_true _ (λ t. let same : pos 0 ≡ pos (suc at) = (signed_Decides (pos 0) (pos (suc at))).0 t in let no : 0 ≡ suc at = cc in omega arith)

  -- no position is 0
  pub is_never : (x : ℕ) → Is doc (number 0) x false
  is_never x at size = ap (keeps (suc at)) (at_number (pos 0) x (suc at) size) ∙ not_zero at
