-- Tests of rows, asked once for each row after the rows of all context rows were put together.
use Rattle.std.proofs.Common.{◌≡◌, refl, sym, ◌∙◌, ap, ℕ, suc, Bool, true, false, ◌||◌, ◌&&◌, eqb, cond, List, [], ◌∷◌, length, map}
use Rattle.std.specs.Prelude.{filter}
use Rattle.std.specs.List.{list_any, list_all}
use Rattle.std.proofs.lemmas.Bool.{eqb-true}
use Rattle.std.proofs.lemmas.List.Elements.{All-head, All-tail}
use Rattle.text_base.proofs.Lists.{filter_twice}
use Rattle.doc_model.specs.Document.{Document, rows}
use Rattle.doc_model.specs.Axes.{axis_list}
use Rattle.doc_model.specs.RowLists.{has}
use Rattle.xpath_values.specs.declared.value.Value.{Value}
use Rattle.xpath_values.specs.declared.value.Value.TheVariants.{Nodes, Num, Str, Bool as Truth}
use Rattle.xpath_parser.specs.declared.expression.Expr.{Expr}
use Rattle.xpath_parser.specs.declared.expression.Step.{Step, out-Step}
use Rattle.xpath_parser.specs.Conversions.{truth_of}
use Rattle.xpath_parser.specs.Functions.{Context}
use Rattle.xpath_parser.specs.Denote.{denote, walk_of, rows_in, kept, kept_from, keeps}
use Rattle.xpath_parser.proofs.Equations.{at_step}
use Rattle.xpath_eval.specs.inner.Tests.{IsTest, AreTests, is_number}

pub keeps_truth : (at : ℕ) (v : Value) → is_number v ≡ false → keeps at v ≡ truth_of v
keeps_truth at (Nodes xs) h = refl
keeps_truth at (Num n) h = cc
keeps_truth at (Str s) h = refl
keeps_truth at (Truth b) h = refl

filter_all : (xs : List ℕ) → xs ≡ filter (λ y. true) xs
filter_all [] = refl
filter_all (x ∷ xs) = ap (λ r. x ∷ r) (filter_all xs)

pub filter_same : (p q : ℕ → Bool) (xs : List ℕ) → ((y : ℕ) → p y ≡ q y) → filter p xs ≡ filter q xs
filter_same p q [] h = refl
filter_same p q (x ∷ xs) h = ap (λ b. cond b (x ∷ filter p xs) (filter p xs)) (h x) ∙ ap (λ r. cond (q x) (x ∷ r) r) (filter_same p q xs h)

none_and : (h : Bool) → (h && false) ≡ false
none_and true = refl
none_and false = refl

-- one row in front, by the tests of it
in_front : (a h q p : Bool) → (a ≡ true → q ≡ p) → cond q (a || (h && p)) (h && p) ≡ ((a || h) && p)
in_front true h true true e = refl
in_front true h true false e = let never : true ≡ false = e refl in cc
in_front true h false true e = let never : false ≡ true = e refl in cc
in_front true h false false e = none_and h
in_front false h true p e = refl
in_front false h false p e = refl

has_filter_at : (p : ℕ → Bool) (x : ℕ) (xs : List ℕ) (y : ℕ) (b : Bool) → p x ≡ b → has y (filter p xs) ≡ (has y xs && p y) → has y (cond b (x ∷ filter p xs) (filter p xs)) ≡ (has y (x ∷ xs) && p y)
has_filter_at p x xs y true e ih = ap (λ v. eqb x y || v) ih ∙ in_front (eqb x y) (has y xs) true (p y) (λ same. sym e ∙ ap p (eqb-true x y same))
has_filter_at p x xs y false e ih = ih ∙ in_front (eqb x y) (has y xs) false (p y) (λ same. sym e ∙ ap p (eqb-true x y same))

has_filter : (p : ℕ → Bool) (xs : List ℕ) (y : ℕ) → has y (filter p xs) ≡ (has y xs && p y)
has_filter p [] y = refl
has_filter p (x ∷ xs) y = has_filter_at p x xs y (p x) refl (has_filter p xs y)

or_and : (a b c : Bool) → ((a && c) || (b && c)) ≡ ((a || b) && c)
or_and true b true = refl
or_and true true false = refl
or_and true false false = refl
or_and false b c = refl

any_and : (p : ℕ → Bool) (b : Bool) (xs : List ℕ) → list_any (λ x. p x && b) xs ≡ (list_any p xs && b)
any_and p b [] = refl
any_and p b (x ∷ xs) = ap (λ r. (p x && b) || r) (any_and p b xs) ∙ or_and (p x) (list_any p xs) b

pub any_by : (p q : ℕ → Bool) (xs : List ℕ) → ((x : ℕ) → p x ≡ q x) → list_any p xs ≡ list_any q xs
any_by p q [] h = refl
any_by p q (x ∷ xs) h = ap (λ b. b || list_any p xs) (h x) ∙ ap (λ b. q x || b) (any_by p q xs h)

module _ (doc : Document) where
  abbrev pub alone : ℕ → Context
  alone y = record { row = y; position = 1; size = 1 }

  abbrev pub passes_test : Expr → ℕ → Bool
  passes_test p y = truth_of (denote doc p (alone y))

  abbrev pub passes_tests : List Expr → ℕ → Bool
  passes_tests ps y = list_all (λ p. passes_test p y) ps

  test_filter : (p : Expr) (size at : ℕ) (xs : List ℕ) → IsTest p → kept_from (denote doc p) size at xs ≡ filter (passes_test p) xs
  test_filter p size at [] t = refl
  test_filter p size at (x ∷ xs) t =
      let c : Context = record { row = x; position = at; size = size } in
      ap (λ b. cond b (x ∷ kept_from (denote doc p) size (suc at) xs) (kept_from (denote doc p) size (suc at) xs))
      (keeps_truth at (denote doc p c) (t.no_number doc c) ∙ ap truth_of (t.placeless doc c (alone x) refl))
      ∙ ap (λ r. cond (passes_test p x) (x ∷ r) r) (test_filter p size (suc at) xs t)

  -- tests keep the rows that pass all of them
  pub tests_filter : (ps : List Expr) (xs : List ℕ) → AreTests ps → kept (map (denote doc) ps) xs ≡ filter (passes_tests ps) xs
  tests_filter [] xs t = filter_all xs
  tests_filter (p ∷ ps) xs t =
      ap (kept (map (denote doc) ps)) (test_filter p (length xs) 1 xs (All-head IsTest p ps t))
      ∙ tests_filter ps (filter (passes_test p) xs) (All-tail IsTest p ps t) ∙ filter_twice (passes_test p) (passes_tests ps) xs

  rows_by_tests : (ps : List Expr) (xs : List ℕ) (lists : ℕ → List ℕ) → AreTests ps → rows_in doc xs (λ x. kept (map (denote doc) ps) (lists x)) ≡ filter (passes_tests ps) (rows_in doc xs lists)
  unfolding rows_in
  rows_by_tests ps xs lists t =
      filter_same _ _ (rows doc) (λ y. any_by _ _ xs (λ x. ap (has y) (tests_filter ps (lists x) t) ∙ has_filter (passes_tests ps) (lists x) y) ∙ any_and (λ x. has y (lists x)) (passes_tests ps y) xs)
      ∙ sym (filter_twice (λ y. list_any (λ x. has y (lists x)) xs) (passes_tests ps) (rows doc))

  rows_by_step : (s : Step) (xs : List ℕ) → rows_in doc xs (walk_of doc s) ≡ rows_in doc xs (λ x. kept (map (denote doc) (out-Step s).predicates) (axis_list doc x (out-Step s).axis (out-Step s).test))
  unfolding rows_in
  rows_by_step s xs = filter_same _ _ (rows doc) (λ y. any_by _ _ xs (λ x. ap (has y) (at_step doc s x)))

  -- the rows of the axis from all context rows, and then the tests
  pub tested_after : (s : Step) (xs : List ℕ) → AreTests (out-Step s).predicates
      → kept (map (denote doc) (out-Step s).predicates) (rows_in doc xs (λ x. axis_list doc x (out-Step s).axis (out-Step s).test)) ≡ rows_in doc xs (walk_of doc s)
  tested_after s xs t =
      tests_filter (out-Step s).predicates (rows_in doc xs (λ x. axis_list doc x (out-Step s).axis (out-Step s).test)) t
      ∙ sym (rows_by_tests (out-Step s).predicates xs (λ x. axis_list doc x (out-Step s).axis (out-Step s).test) t) ∙ sym (rows_by_step s xs)
