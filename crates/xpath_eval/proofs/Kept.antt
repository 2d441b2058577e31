-- What predicates leave of a list of rows.
use Rattle.std.proofs.Common.{◌≡◌, refl, sym, ◌∙◌, ap, subst, ℕ, suc, ◌<◌, ◌≤◌, Bool, true, false, ◌&&◌, cond, List, [], ◌∷◌, length, map, arith}
use Rattle.std.specs.Prelude.{filter, reverse}
use Rattle.std.specs.List.{All}
use Rattle.std.proofs.lemmas.List.{length-reverse}
use Rattle.std.proofs.lemmas.List.Elements.{All-nil, All-cons, All-head, All-tail}
use Rattle.doc_model.specs.Document.{Document, rows}
use Rattle.doc_model.specs.Axes.{axis_list, is_reverse, on_axis, passes}
use Rattle.doc_model.specs.declared.Axis.{Axis}
use Rattle.doc_model.specs.declared.NodeTest.{NodeTest}
use Rattle.doc_model.specs.RowLists.{Run, AllBelow}
use Rattle.doc_model.proofs.Runs.{run_lower, filter_run}
use Rattle.xpath_parser.specs.declared.expression.Step.{Step, out-Step}
use Rattle.xpath_parser.specs.Functions.{Context}
use Rattle.xpath_parser.specs.Denote.{Meaning, kept, kept_from, keeps, denote, walk_of}
use Rattle.xpath_parser.proofs.Equations.{at_step}
use Rattle.xpath_eval.proofs.Lists.{run_below, run_few, all_by_same, has-reverse}

-- ---- order

run_either : (low high x : ℕ) (rest : List ℕ) (b : Bool) → low ≤ x → Run (suc x) high rest → Run low high (cond b (x ∷ rest) rest)
run_either low high x rest true h r = (h, r)
run_either low high x rest false h r = run_lower (suc x) low high rest (omega (arith, h)) r

kept_from_run : (p : Meaning) (size at low high : ℕ) (xs : List ℕ) → Run low high xs → Run low high (kept_from p size at xs)
kept_from_run p size at low high [] r = r
kept_from_run p size at low high (x ∷ xs) r =
    run_either low high x (kept_from p size (suc at) xs) (keeps at (p (record { row = x; position = at; size = size }))) r.0 (kept_from_run p size (suc at) (suc x) high xs r.1)

pub kept_run : (ps : List Meaning) (low high : ℕ) (xs : List ℕ) → Run low high xs → Run low high (kept ps xs)
kept_run [] low high xs r = r
kept_run (p ∷ ps) low high xs r = kept_run ps low high (kept_from p (length xs) 1 xs) (kept_from_run p (length xs) 1 low high xs r)

-- ---- bounds

all_either : (P : ℕ → Type 0) (x : ℕ) (rest : List ℕ) (b : Bool) → P x → All P rest → All P (cond b (x ∷ rest) rest)
all_either P x rest true h r = All-cons P x rest h r
all_either P x rest false h r = r

pub kept_from_all : (P : ℕ → Type 0) (p : Meaning) (size at : ℕ) (xs : List ℕ) → All P xs → All P (kept_from p size at xs)
kept_from_all P p size at [] a = All-nil P
kept_from_all P p size at (x ∷ xs) a =
    all_either P x (kept_from p size (suc at) xs) (keeps at (p (record { row = x; position = at; size = size }))) (All-head P x xs a) (kept_from_all P p size (suc at) xs (All-tail P x xs a))

pub kept_all : (P : ℕ → Type 0) (ps : List Meaning) (xs : List ℕ) → All P xs → All P (kept ps xs)
kept_all P [] xs a = a
kept_all P (p ∷ ps) xs a = kept_all P ps (kept_from p (length xs) 1 xs) (kept_from_all P p (length xs) 1 xs a)

length_either : (x n : ℕ) (rest : List ℕ) (b : Bool) → length rest ≤ n → length (cond b (x ∷ rest) rest) ≤ suc n
length_either x n rest true h = let e : length (x ∷ rest) ≡ suc (length rest) = refl in omega (arith, h, e)
length_either x n rest false h = omega (arith, h)

pub kept_from_few : (p : Meaning) (size at : ℕ) (xs : List ℕ) → length (kept_from p size at xs) ≤ length xs
kept_from_few p size at [] = omega arith
kept_from_few p size at (x ∷ xs) =
    length_either x (length xs) (kept_from p size (suc at) xs) (keeps at (p (record { row = x; position = at; size = size }))) (kept_from_few p size (suc at) xs)

-- predicates with the same values keep the same rows
pub kept_from_same : (p q : Meaning) → ((c : Context) → p c ≡ q c) → (size at : ℕ) (xs : List ℕ) → kept_from p size at xs ≡ kept_from q size at xs
kept_from_same p q same size at [] = refl
kept_from_same p q same size at (x ∷ xs) =
    ap (λ v. cond (keeps at v) (x ∷ kept_from p size (suc at) xs) (kept_from p size (suc at) xs)) (same (record { row = x; position = at; size = size }))
    ∙ ap (λ r. cond (keeps at (q (record { row = x; position = at; size = size }))) (x ∷ r) r) (kept_from_same p q same size (suc at) xs)

-- ---- one step

below_either : (n : ℕ) (b : Bool) (xs : List ℕ) → Run 0 n xs → AllBelow n (cond b (reverse xs) xs)
below_either n true xs r = all_by_same (λ y. y < n) xs (reverse xs) (λ y. has-reverse y xs) (run_below 0 n xs r)
below_either n false xs r = run_below 0 n xs r

few_either : (n : ℕ) (b : Bool) (xs : List ℕ) → Run 0 n xs → length (cond b (reverse xs) xs) ≤ n
few_either n true xs r = subst (λ k. k ≤ n) (sym (length-reverse xs)) (run_few n xs r)
few_either n false xs r = run_few n xs r

module _ (doc : Document) where
  axis_run : (x : ℕ) (a : Axis) (t : NodeTest) → Run 0 (length doc) (filter (λ y. on_axis doc a x y && passes doc a t y) (rows doc))
  axis_run x a t = filter_run _ (length doc) 0 (length doc) (omega arith)

  pub axis_below : (x : ℕ) (a : Axis) (t : NodeTest) → AllBelow (length doc) (axis_list doc x a t)
  axis_below x a t = below_either (length doc) (is_reverse a) _ (axis_run x a t)

  pub axis_few : (x : ℕ) (a : Axis) (t : NodeTest) → length (axis_list doc x a t) ≤ length doc
  axis_few x a t = few_either (length doc) (is_reverse a) _ (axis_run x a t)

  -- the rows of a step are rows
  pub walk_below : (s : Step) (x : ℕ) → AllBelow (length doc) (walk_of doc s x)
  walk_below s x =
      subst (λ v. AllBelow (length doc) v) (sym (at_step doc s x))
      (kept_all (λ y. y < length doc) (map (denote doc) (out-Step s).predicates) (axis_list doc x (out-Step s).axis (out-Step s).test) (axis_below x (out-Step s).axis (out-Step s).test))
