-- The stored tests that an expression asks, at each form, and what its parts ask.
use Rattle.std.proofs.Common.{◌≡◌, refl, sym, ◌∙◌, ap, subst, ℕ, List, [], ◌∷◌, ◌++◌, map, ℤ, Some, None}
use Rattle.std.specs.Prelude.{All, Option}
use Rattle.std.specs.List.{flat_map}
use Rattle.std.proofs.lemmas.List.Elements.{All-nil, All-cons, All-head, All-tail}
use Rattle.test_registry.specs.declared.kinds.TestKind.{TestKind}
use Rattle.test_registry.specs.Kinds.{HasKind}
use Rattle.test_registry.specs.Names.{Known}
use Rattle.xpath_parser.specs.declared.expression.Func.{Func}
use Rattle.xpath_parser.specs.declared.expression.Expr.{Expr}
use Rattle.xpath_parser.specs.declared.expression.Expr.TheVariants as e
use Rattle.xpath_parser.specs.declared.expression.Expr.TheOpen as open_
use Rattle.xpath_parser.specs.declared.expression.Expr.TheFolds.{fold-roll-Expr, fold-roll-Start, fold_out-Step, fold_out-Operand, fold-Start, fold-Operand, fold-Step}
use Rattle.xpath_parser.specs.declared.expression.Expr.TheViews.{rolls-Here, rolls-Root, rolls-From}
use Rattle.xpath_parser.specs.declared.expression.Start.{Start}
use Rattle.xpath_parser.specs.declared.expression.Start.TheVariants.{Here, Root, From}
use Rattle.xpath_parser.specs.declared.expression.Step.{Step, out-Step}
use Rattle.xpath_parser.specs.declared.expression.Operand.{Operand, out-Operand}
use Rattle.xpath_parser.specs.Asking.{Kinds, stored_kind, IsStored, all_kinds, kind_list, func_kinds, expr_kinds, start_kinds, operand_kinds, step_kinds, stored_kinds, AsksOnly, AsksNone, StepAsks, OperandAsks, StartAsks}

-- ---- the kinds at each form

abbrev folded_start : Start → Kinds
folded_start = fold-Start Kinds Kinds Kinds Kinds expr_kinds start_kinds operand_kinds step_kinds

abbrev folded_operand : Operand → Kinds
folded_operand = fold-Operand Kinds Kinds Kinds Kinds expr_kinds start_kinds operand_kinds step_kinds

abbrev folded_step : Step → Kinds
folded_step = fold-Step Kinds Kinds Kinds Kinds expr_kinds start_kinds operand_kinds step_kinds

-- those of an operand, and those of a step
abbrev pub kinds_right : Operand → Kinds
kinds_right o = stored_kinds (out-Operand o).value

abbrev pub kinds_within : Step → Kinds
kinds_within s = flat_map stored_kinds (out-Step s).predicates

each_kind : {A : Type 0} (g : A → Kinds) (xs : List A) → all_kinds (map g xs) ≡ flat_map g xs
each_kind g [] = refl
each_kind g (x ∷ xs) = ap (λ ks. g x ++ ks) (each_kind g xs)

same_kinds : {A : Type 0} (g h : A → Kinds) → ((x : A) → g x ≡ h x) → (xs : List A) → flat_map g xs ≡ flat_map h xs
same_kinds g h p [] = refl
same_kinds g h p (x ∷ xs) = ap (λ ks. ks ++ flat_map g xs) (p x) ∙ ap (λ ks. h x ++ ks) (same_kinds g h p xs)

at_operand : (o : Operand) → folded_operand o ≡ kinds_right o
unfolding stored_kinds
at_operand o = fold_out-Operand Kinds Kinds Kinds Kinds expr_kinds start_kinds operand_kinds step_kinds o

at_step : (s : Step) → folded_step s ≡ kinds_within s
unfolding stored_kinds
at_step s = fold_out-Step Kinds Kinds Kinds Kinds expr_kinds start_kinds operand_kinds step_kinds s ∙ each_kind stored_kinds (out-Step s).predicates

pub at_or : (es : List Expr) → stored_kinds (e.Or es) ≡ flat_map stored_kinds es
unfolding stored_kinds
at_or es = ap stored_kinds (sym (e.rolls-Or es)) ∙ fold-roll-Expr Kinds Kinds Kinds Kinds expr_kinds start_kinds operand_kinds step_kinds (open_.Or es) ∙ each_kind stored_kinds es

pub at_and : (es : List Expr) → stored_kinds (e.And es) ≡ flat_map stored_kinds es
unfolding stored_kinds
at_and es = ap stored_kinds (sym (e.rolls-And es)) ∙ fold-roll-Expr Kinds Kinds Kinds Kinds expr_kinds start_kinds operand_kinds step_kinds (open_.And es) ∙ each_kind stored_kinds es

pub at_joined : (x : Expr) (os : List Operand) → stored_kinds (e.Joined x os) ≡ stored_kinds x ++ flat_map kinds_right os
unfolding stored_kinds
at_joined x os = ap stored_kinds (sym (e.rolls-Joined x os)) ∙ fold-roll-Expr Kinds Kinds Kinds Kinds expr_kinds start_kinds operand_kinds step_kinds (open_.Joined x os)
    ∙ ap (λ ks. stored_kinds x ++ ks) (each_kind folded_operand os ∙ same_kinds folded_operand kinds_right at_operand os)

pub at_minus : (n : ℕ) (x : Expr) → stored_kinds (e.Minus n x) ≡ stored_kinds x
unfolding stored_kinds
at_minus n x = ap stored_kinds (sym (e.rolls-Minus n x)) ∙ fold-roll-Expr Kinds Kinds Kinds Kinds expr_kinds start_kinds operand_kinds step_kinds (open_.Minus n x)

pub at_union : (es : List Expr) → stored_kinds (e.Union es) ≡ flat_map stored_kinds es
unfolding stored_kinds
at_union es = ap stored_kinds (sym (e.rolls-Union es)) ∙ fold-roll-Expr Kinds Kinds Kinds Kinds expr_kinds start_kinds operand_kinds step_kinds (open_.Union es) ∙ each_kind stored_kinds es

at_path : (start : Start) (ss : List Step) → stored_kinds (e.Path start ss) ≡ folded_start start ++ flat_map kinds_within ss
unfolding stored_kinds
at_path start ss = ap stored_kinds (sym (e.rolls-Path start ss)) ∙ fold-roll-Expr Kinds Kinds Kinds Kinds expr_kinds start_kinds operand_kinds step_kinds (open_.Path start ss)
    ∙ ap (λ ks. folded_start start ++ ks) (each_kind folded_step ss ∙ same_kinds folded_step kinds_within at_step ss)

pub at_here : (ss : List Step) → stored_kinds (e.Path Here ss) ≡ flat_map kinds_within ss
at_here ss = at_path Here ss ∙ ap (λ ks. ks ++ flat_map kinds_within ss) (ap folded_start (sym rolls-Here) ∙ fold-roll-Start Kinds Kinds Kinds Kinds expr_kinds start_kinds operand_kinds step_kinds open_.Here)

pub at_root : (ss : List Step) → stored_kinds (e.Path Root ss) ≡ flat_map kinds_within ss
at_root ss = at_path Root ss ∙ ap (λ ks. ks ++ flat_map kinds_within ss) (ap folded_start (sym rolls-Root) ∙ fold-roll-Start Kinds Kinds Kinds Kinds expr_kinds start_kinds operand_kinds step_kinds open_.Root)

start_from : (x : Expr) → folded_start (From x) ≡ stored_kinds x
unfolding stored_kinds
start_from x = ap folded_start (sym (rolls-From x)) ∙ fold-roll-Start Kinds Kinds Kinds Kinds expr_kinds start_kinds operand_kinds step_kinds (open_.From x)

pub at_from : (x : Expr) (ss : List Step) → stored_kinds (e.Path (From x) ss) ≡ stored_kinds x ++ flat_map kinds_within ss
at_from x ss = at_path (From x) ss ∙ ap (λ ks. ks ++ flat_map kinds_within ss) (start_from x)

pub at_filter : (x : Expr) (ps : List Expr) → stored_kinds (e.Filter x ps) ≡ stored_kinds x ++ flat_map stored_kinds ps
unfolding stored_kinds
at_filter x ps = ap stored_kinds (sym (e.rolls-Filter x ps)) ∙ fold-roll-Expr Kinds Kinds Kinds Kinds expr_kinds start_kinds operand_kinds step_kinds (open_.Filter x ps) ∙ ap (λ ks. stored_kinds x ++ ks) (each_kind stored_kinds ps)

pub at_literal : (t : List ℕ) → stored_kinds (e.Literal t) ≡ []
unfolding stored_kinds
at_literal t = ap stored_kinds (sym (e.rolls-Literal t)) ∙ fold-roll-Expr Kinds Kinds Kinds Kinds expr_kinds start_kinds operand_kinds step_kinds (open_.Literal t)

pub at_number : (n : ℤ) → stored_kinds (e.Number n) ≡ []
unfolding stored_kinds
at_number n = ap stored_kinds (sym (e.rolls-Number n)) ∙ fold-roll-Expr Kinds Kinds Kinds Kinds expr_kinds start_kinds operand_kinds step_kinds (open_.Number n)

pub at_call : (g : Func) (es : List Expr) → stored_kinds (e.Call g es) ≡ func_kinds g ++ flat_map stored_kinds es
unfolding stored_kinds
at_call g es = ap stored_kinds (sym (e.rolls-Call g es)) ∙ fold-roll-Expr Kinds Kinds Kinds Kinds expr_kinds start_kinds operand_kinds step_kinds (open_.Call g es) ∙ ap (λ ks. func_kinds g ++ ks) (each_kind stored_kinds es)

-- ---- what the parts of an expression ask

both : {X : Type 0} (P : X → Type 0) (xs ys : List X) → All P (xs ++ ys) → All P xs × All P ys
both P [] ys h = (All-nil P, h)
both P (x ∷ xs) ys h =
    let rest = both P xs ys (All-tail P x (xs ++ ys) h) in
    (All-cons P x xs (All-head P x (xs ++ ys) h) rest.0, rest.1)

module _ (tests : Known) where
  abbrev Stored : Kinds → Type 0
  Stored ks = All (λ kind. HasKind kind tests) ks

  each : (xs : List Expr) → Stored (flat_map stored_kinds xs) → All (AsksOnly tests) xs
  each [] h = All-nil (AsksOnly tests)
  each (x ∷ xs) h =
      let p = both (λ kind. HasKind kind tests) (stored_kinds x) (flat_map stored_kinds xs) h in
      All-cons (AsksOnly tests) x xs (record { stored = p.0 }) (each xs p.1)

  each_operand : (os : List Operand) → Stored (flat_map kinds_right os) → All (OperandAsks tests) os
  each_operand [] h = All-nil (OperandAsks tests)
  each_operand (o ∷ os) h =
      let p = both (λ kind. HasKind kind tests) (kinds_right o) (flat_map kinds_right os) h in
      All-cons (OperandAsks tests) o os (record { stored = p.0 }) (each_operand os p.1)

  each_step : (ss : List Step) → Stored (flat_map kinds_within ss) → All (StepAsks tests) ss
  each_step [] h = All-nil (StepAsks tests)
  each_step (s ∷ ss) h =
      let p = both (λ kind. HasKind kind tests) (kinds_within s) (flat_map kinds_within ss) h in
      All-cons (StepAsks tests) s ss (each (out-Step s).predicates p.0) (each_step ss p.1)

  pub asks_or : (es : List Expr) → AsksOnly tests (e.Or es) → All (AsksOnly tests) es
  asks_or es h = each es (subst Stored (at_or es) h.stored)

  pub asks_and : (es : List Expr) → AsksOnly tests (e.And es) → All (AsksOnly tests) es
  asks_and es h = each es (subst Stored (at_and es) h.stored)

  pub asks_union : (es : List Expr) → AsksOnly tests (e.Union es) → All (AsksOnly tests) es
  asks_union es h = each es (subst Stored (at_union es) h.stored)

  pub asks_joined : (x : Expr) (os : List Operand) → AsksOnly tests (e.Joined x os) → AsksOnly tests x × All (OperandAsks tests) os
  asks_joined x os h =
      let p = both (λ kind. HasKind kind tests) (stored_kinds x) (flat_map kinds_right os) (subst Stored (at_joined x os) h.stored) in
      (record { stored = p.0 }, each_operand os p.1)

  pub asks_minus : (n : ℕ) (x : Expr) → AsksOnly tests (e.Minus n x) → AsksOnly tests x
  asks_minus n x h = record { stored = subst Stored (at_minus n x) h.stored }

  pub asks_filter : (x : Expr) (ps : List Expr) → AsksOnly tests (e.Filter x ps) → AsksOnly tests x × All (AsksOnly tests) ps
  asks_filter x ps h =
      let p = both (λ kind. HasKind kind tests) (stored_kinds x) (flat_map stored_kinds ps) (subst Stored (at_filter x ps) h.stored) in
      (record { stored = p.0 }, each ps p.1)

  pub asks_path : (start : Start) (ss : List Step) → AsksOnly tests (e.Path start ss) → StartAsks tests start × All (StepAsks tests) ss
  asks_path start ss h =
      let p = both (λ kind. HasKind kind tests) (folded_start start) (flat_map kinds_within ss) (subst Stored (at_path start ss) h.stored) in
      (λ x is. record { stored = subst Stored (ap folded_start is ∙ start_from x) p.0 }, each_step ss p.1)

  one : (g : Func) → Stored (func_kinds g) → IsStored tests (stored_kind g)
  one g h = by (stored_kind g) h
    where
      by : (o : Option TestKind) → Stored (kind_list o) → IsStored tests o
      by (Some kind) h = All-head (λ kind. HasKind kind tests) kind [] h
      by None h = tt

  pub asks_call : (g : Func) (es : List Expr) → AsksOnly tests (e.Call g es) → IsStored tests (stored_kind g) × All (AsksOnly tests) es
  asks_call g es h =
      let p = both (λ kind. HasKind kind tests) (func_kinds g) (flat_map stored_kinds es) (subst Stored (at_call g es) h.stored) in
      (one g p.0, each es p.1)

-- ---- where no tests are stored

nothing : (ks : Kinds) → All (λ kind. HasKind kind []) ks → ks ≡ []
nothing [] h = refl
nothing (k ∷ ks) h = absurd (All-head (λ kind. HasKind kind []) k ks h)

pub asks_none : (x : Expr) → AsksOnly [] x → AsksNone x
asks_none x h = nothing (stored_kinds x) h.stored

pub none_asked : (tests : Known) (x : Expr) → AsksNone x → AsksOnly tests x
none_asked tests x h = record { stored = subst (All (λ kind. HasKind kind tests)) (sym h) (All-nil (λ kind. HasKind kind tests)) }
