-- The rows of several lists together, and the order of the rows that an expression gives.
use Rattle.std.proofs.Common.{◌≡◌, refl, sym, ◌∙◌, ap, subst, ℕ, ◌<◌, ◌≤◌, Bool, true, false, ◌||◌, List, [], ◌∷◌, ◌++◌, length, take, arith, inl, inr}
use Rattle.std.specs.List.{list_any}
use Rattle.std.proofs.lemmas.List.Folds.{list_any-append}
use Rattle.std.proofs.lemmas.List.{take_all}
use Rattle.std.proofs.lemmas.List.Elements.{All-nil}
use Rattle.doc_model.specs.Document.{Document}
use Rattle.doc_model.specs.RowLists.{Run, has, AllBelow}
use Rattle.doc_model.proofs.Runs.{filter_run, gathered}
use Rattle.xpath_values.specs.declared.value.Value.{Value}
use Rattle.xpath_parser.specs.declared.expression.Func.{Func}
use Rattle.xpath_parser.specs.declared.expression.Func.TheVariants as f
use Rattle.xpath_parser.specs.declared.expression.Infix.{Infix}
use Rattle.xpath_parser.specs.declared.expression.Infix.TheVariants as op
use Rattle.xpath_parser.specs.Conversions.{rows_of}
use Rattle.xpath_parser.specs.Functions.{Context, called}
use Rattle.xpath_parser.specs.Denote.{rows_in, path, applied, joined, Walk}
use Rattle.xpath_eval.specs.Rows.{AreRows}
use Rattle.xpath_eval.proofs.Lists.{member_of_all, all_by_members, or_cases, run_below}

-- a list has the rows of so many lists, all of them below n
pub record Gathered {A : Type 0} (n : ℕ) (xs : List A) (list_at : A → List ℕ) (found : List ℕ) : Type 0 where
  pub below : AllBelow n found
  pub same : (y : ℕ) → has y found ≡ list_any (λ x. has y (list_at x)) xs

pub gathered_none : {A : Type 0} (n : ℕ) (list_at : A → List ℕ) → Gathered n [] list_at []
gathered_none n list_at = record { below = All-nil (λ y. y < n); same = λ y. refl }

or_none : (a : Bool) → (a || false) ≡ a
or_none true = refl
or_none false = refl

pub gathered_more : {A : Type 0} (n : ℕ) (xs : List A) (x : A) (list_at : A → List ℕ) (found next : List ℕ) → Gathered n xs list_at found → AllBelow n (list_at x)
    → ((y : ℕ) → has y next ≡ (has y found || has y (list_at x))) → Gathered n (xs ++ x ∷ []) list_at next
gathered_more n xs x list_at found next g below step = record {
  below = all_by_members (λ y. y < n) next (λ y h. elim (or_cases (has y found) (has y (list_at x)) (sym (step y) ∙ h)) [
    | inl l ↦ member_of_all (λ y. y < n) found y g.below l
    | inr r ↦ member_of_all (λ y. y < n) (list_at x) y below r
  ]);
  same = λ y. step y ∙ ap (λ b. b || has y (list_at x)) (g.same y)
      ∙ sym (list_any-append (λ v. has y (list_at v)) xs (x ∷ []) ∙ ap (λ b. list_any (λ v. has y (list_at v)) xs || b) (or_none (has y (list_at x))));
}

module _ (doc : Document) where
  pub gathered_all : {A : Type 0} (xs : List A) (list_at : A → List ℕ) (found all : List ℕ) → Gathered (length doc) xs list_at found
      → ((y : ℕ) → has y all ≡ has y found) → Run 0 (length doc) all → all ≡ rows_in doc xs list_at
  unfolding rows_in
  gathered_all xs list_at found all g same run = gathered (length doc) all (λ y. list_any (λ x. has y (list_at x)) xs) run (λ y. same y ∙ g.same y)

  -- all lists were gathered
  pub gathered_whole : {A : Type 0} (xs : List A) (i : ℕ) (list_at : A → List ℕ) (found all : List ℕ) → Gathered (length doc) (take i xs) list_at found → length xs ≤ i
      → ((y : ℕ) → has y all ≡ has y found) → ((n : ℕ) → AllBelow n found → Run 0 n all) → all ≡ rows_in doc xs list_at
  gathered_whole xs i list_at found all g over same run =
      gathered_all (take i xs) list_at found all g same (run (length doc) g.below) ∙ ap (λ v. rows_in doc v list_at) (take_all i xs over)

  pub rows_in_run : {A : Type 0} (xs : List A) (list_at : A → List ℕ) → AreRows doc (rows_in doc xs list_at)
  unfolding rows_in
  rows_in_run xs list_at = filter_run _ (length doc) 0 (length doc) (omega arith)

  pub path_run : (xs : List ℕ) (ws : List Walk) → AreRows doc xs → AreRows doc (path doc xs ws)
  path_run xs [] r = r
  path_run xs (w ∷ ws) r = path_run (rows_in doc xs w) ws (rows_in_run xs w)

  -- whatever the list of them is called
  pub path_below : (xs : List ℕ) (ws : List Walk) (found : List ℕ) → found ≡ path doc xs ws → AreRows doc xs → AllBelow (length doc) found
  path_below xs ws found is r = subst (AllBelow (length doc)) (sym is) (run_below 0 (length doc) (path doc xs ws) (path_run xs ws r))

  no_rows : AreRows doc []
  no_rows = omega arith

  applied_run : (o : Infix) (a b : Value) → AreRows doc (rows_of (applied doc o a b))
  applied_run (op.Compare c) a b = no_rows
  applied_run op.Add a b = no_rows
  applied_run op.Sub a b = no_rows
  applied_run op.Mul a b = no_rows
  applied_run op.Mod a b = no_rows

  pub joined_run : (v : Value) (ps : List (Infix × Value)) → AreRows doc (rows_of v) → AreRows doc (rows_of (joined doc v ps))
  joined_run v [] r = r
  joined_run v (p ∷ ps) r = joined_run (applied doc p.0 v p.1) ps (applied_run p.0 v p.1)

  pub called_run : (g : Func) (vs : List Value) (c : Context) → AreRows doc (rows_of (called doc g vs c))
  called_run f.Id vs c = filter_run _ (length doc) 0 (length doc) (omega arith)
  called_run f.Last vs c = no_rows
  called_run f.Position vs c = no_rows
  called_run f.Count vs c = no_rows
  called_run f.LocalName vs c = no_rows
  called_run f.NamespaceUri vs c = no_rows
  called_run f.Name vs c = no_rows
  called_run f.Str vs c = no_rows
  called_run f.Concat vs c = no_rows
  called_run f.StartsWith vs c = no_rows
  called_run f.Contains vs c = no_rows
  called_run f.SubstringBefore vs c = no_rows
  called_run f.SubstringAfter vs c = no_rows
  called_run f.Substring vs c = no_rows
  called_run f.StringLength vs c = no_rows
  called_run f.NormalizeSpace vs c = no_rows
  called_run f.Translate vs c = no_rows
  called_run f.Boolean vs c = no_rows
  called_run f.Not vs c = no_rows
  called_run f.True vs c = no_rows
  called_run f.False vs c = no_rows
  called_run f.Lang vs c = no_rows
  called_run f.Number vs c = no_rows
  called_run f.Sum vs c = no_rows
  called_run f.Floor vs c = no_rows
  called_run f.Ceiling vs c = no_rows
  called_run f.Round vs c = no_rows
  called_run (f.Stored kind) vs c = no_rows
