-- Whether there is a row, asked of the rows one by one.
use Rattle.std.proofs.Common.{◌≡◌, refl, sym, ◌∙◌, ap, ℕ, suc, ◌+◌, ◌-◌, ◌<◌, Bool, true, false, ◌||◌, cond, List, [], ◌∷◌, ◌++◌, length, take, map, get_or, arith}
use Rattle.std.specs.Cmp as std_cmp
use Rattle.std.specs.Prelude.{filter, nat_lt}
use Rattle.std.specs.List.{list_any}
use Rattle.std.proofs.Math.Seq.{take-append_seam}
use Rattle.std.proofs.lemmas.List.{length-append, take_all}
use Rattle.doc_model.specs.declared.Axis.TheVariants as axis
use Rattle.doc_model.specs.Axes.{axis_list}
use Rattle.doc_model.specs.Document.{Document, IsDocument}
use Rattle.doc_model.specs.RowLists.{has, AllBelow}
use Rattle.xpath_parser.specs.declared.expression.Expr.{Expr}
use Rattle.xpath_parser.specs.declared.expression.Step.{Step, out-Step}
use Rattle.xpath_parser.specs.Conversions.{is_any}
use Rattle.xpath_parser.specs.Denote.{walk_of, rows_in, path}
use Rattle.xpath_eval.specs.inner.Steps.{EndsBelow}
use Rattle.xpath_eval.specs.inner.Tests.{AreTests, passes_all}
use Rattle.xpath_eval.proofs.Counting.{any_length}
use Rattle.xpath_eval.proofs.Covering.{any_member, member_any, told_from}
use Rattle.xpath_eval.proofs.Deep.{tested_below}
use Rattle.xpath_eval.proofs.Filtering.{any_by, tests_filter, tested_after}
use Rattle.xpath_eval.proofs.Gathers.{rows_in_run}
use Rattle.xpath_eval.proofs.Kept.{walk_below}
use Rattle.xpath_eval.proofs.Lists.{member_of_all, run_below, take_at}

pub any_row : (xs : List ℕ) → list_any (λ y. true) xs ≡ is_any xs
any_row [] = refl
any_row (x ∷ xs) = refl

any_filter_at : (p : ℕ → Bool) (x : ℕ) (xs : List ℕ) (b : Bool) → list_any p xs ≡ is_any (filter p xs) → (b || list_any p xs) ≡ is_any (cond b (x ∷ filter p xs) (filter p xs))
any_filter_at p x xs true ih = refl
any_filter_at p x xs false ih = ih

pub any_filter : (p : ℕ → Bool) (xs : List ℕ) → list_any p xs ≡ is_any (filter p xs)
any_filter p [] = refl
any_filter p (x ∷ xs) = any_filter_at p x xs (p x) (any_filter p xs)

path_append : (doc : Document) (xs : List ℕ) (before : List Step) (more : List Step)
    → path doc xs (map (walk_of doc) (before ++ more)) ≡ path doc (path doc xs (map (walk_of doc) before)) (map (walk_of doc) more)
path_append doc xs [] more = refl
path_append doc xs (s ∷ before) more = path_append doc (rows_in doc xs (walk_of doc s)) before more

module _ (doc : Document) where
  -- a row passes that is in one of the lists, where a row of one of the lists passes
  pub any_in : (p : ℕ → Bool) (xs : List ℕ) (lists : ℕ → List ℕ) → ((x : ℕ) → AllBelow (length doc) (lists x))
      → list_any (λ x. list_any p (lists x)) xs ≡ list_any p (rows_in doc xs lists)
  unfolding rows_in
  any_in p xs lists below =
      let told : (y : ℕ) → y < length doc → has y (rows_in doc xs lists) ≡ list_any (λ x. has y (lists x)) xs
      = λ y l. told_from (λ v. list_any (λ x. has v (lists x)) xs) (length doc) 0 y (omega arith) (omega (arith, l)) in
      std_cmp.both_ways _ _
      (λ h. let x = any_member (λ x. list_any p (lists x)) xs h in
      let y = any_member p (lists x.0) x.2 in
      let l : y.0 < length doc = member_of_all (λ v. v < length doc) (lists x.0) y.0 (below x.0) y.1 in
      member_any p (rows_in doc xs lists) y.0 (told y.0 l ∙ member_any (λ v. has y.0 (lists v)) xs x.0 x.1 y.1) y.2)
      (λ h. let y = any_member p (rows_in doc xs lists) h in
      let l : y.0 < length doc = member_of_all (λ v. v < length doc) (rows_in doc xs lists) y.0 (run_below 0 (length doc) (rows_in doc xs lists) (rows_in_run doc xs lists)) y.1 in
      let x = any_member (λ v. has y.0 (lists v)) xs (sym (told y.0 l) ∙ y.1) in
      member_any (λ x. list_any p (lists x)) xs x.0 x.1 (member_any p (lists x.0) y.0 x.2 y.2))

  -- there is a row of a step from one of the rows
  pub any_walked : (s : Step) (xs : List ℕ) → list_any (λ x. is_any (walk_of doc s x)) xs ≡ is_any (rows_in doc xs (walk_of doc s))
  any_walked s xs =
      any_by _ _ xs (λ x. sym (any_row (walk_of doc s x))) ∙ any_in (λ y. true) xs (walk_of doc s) (walk_below doc s) ∙ any_row (rows_in doc xs (walk_of doc s))

  -- a row on the axis of one of the rows passes the tests of the step
  pub any_tested : (s : Step) (xs : List ℕ) → AreTests (out-Step s).predicates
      → list_any (passes_all doc (out-Step s).predicates) (rows_in doc xs (λ x. axis_list doc x (out-Step s).axis (out-Step s).test)) ≡ is_any (rows_in doc xs (walk_of doc s))
  any_tested s xs t =
      let found = rows_in doc xs (λ x. axis_list doc x (out-Step s).axis (out-Step s).test) in
      any_filter (passes_all doc (out-Step s).predicates) found ∙ ap is_any (sym (tests_filter doc (out-Step s).predicates found t) ∙ tested_after doc s xs t)

  -- a row below one of the rows passes the tests of the last step
  any_ends : (xs : List ℕ) (ss : List Step) (e : EndsBelow ss) → IsDocument doc
      → list_any (passes_all doc (out-Step e.second).predicates) (rows_in doc (path doc xs (map (walk_of doc) e.before)) (λ x. axis_list doc x axis.Descendant (out-Step e.second).test))
      ≡ is_any (path doc xs (map (walk_of doc) ss))
  any_ends xs ss e d =
      let rows = path doc xs (map (walk_of doc) e.before) in
      let found = rows_in doc rows (λ x. axis_list doc x axis.Descendant (out-Step e.second).test) in
      any_filter (passes_all doc (out-Step e.second).predicates) found
      ∙ ap is_any (sym (tests_filter doc (out-Step e.second).predicates found e.tested.tests) ∙ tested_below doc e.first e.second rows d e.below e.tested
      ∙ sym (path_append doc xs e.before (e.first ∷ e.second ∷ [])) ∙ ap (λ v. path doc xs (map (walk_of doc) v)) (sym e.all))

  -- without predicates each row passes
  pub any_plain : (ps : List Expr) (xs : List ℕ) → length ps ≡ 0 → nat_lt 0 (length xs) ≡ list_any (passes_all doc ps) xs
  any_plain [] xs h = sym (any_length doc xs) ∙ sym (any_row xs)
  any_plain (p ∷ ps) xs h = absurd (let long : length (p ∷ ps) ≡ suc (length ps) = refl in omega (arith, h, long))

  -- all steps but the last, and then the last
  pub any_last : (xs : List ℕ) (ss : List Step) (s : Step) (i : ℕ) → suc i ≡ length ss → s ≡ get_or ss i s
      → is_any (rows_in doc (path doc xs (map (walk_of doc) (take i ss))) (walk_of doc s)) ≡ is_any (path doc xs (map (walk_of doc) ss))
  any_last xs ss s i e is =
      ap is_any (sym (path_append doc xs (take i ss) (s ∷ []))
      ∙ ap (λ v. path doc xs (map (walk_of doc) v)) (sym (take_at ss i s is (omega (arith, e))) ∙ take_all (i + 1) ss (omega (arith, e))))

  last_two : (before : List Step) (a b d : Step) → get_or (before ++ a ∷ b ∷ []) (suc (length before)) d ≡ b
  last_two [] a b d = refl
  last_two (x ∷ before) a b d = last_two before a b d

  -- all steps but the last two, and then the step down that they are
  pub any_below : (xs : List ℕ) (ss : List Step) (s : Step) → IsDocument doc → EndsBelow ss → s ≡ get_or ss (length ss - 1) s
      → list_any (passes_all doc (out-Step s).predicates) (rows_in doc (path doc xs (map (walk_of doc) (take (length ss - 1 - 1) ss))) (λ x. axis_list doc x axis.Descendant (out-Step s).test))
      ≡ is_any (path doc xs (map (walk_of doc) ss))
  any_below xs ss s d e is =
      let long : length ss ≡ length e.before + 2 = ap length e.all ∙ length-append e.before (e.first ∷ e.second ∷ []) in
      let at : length ss - 1 ≡ suc (length e.before) = omega (arith, long) in
      let front : length ss - 1 - 1 ≡ length e.before = omega (arith, long) in
      let same : e.second ≡ s = sym (is ∙ ap (λ k. get_or ss k s) at ∙ ap (λ (v : List Step). get_or v (suc (length e.before)) s) e.all ∙ last_two e.before e.first e.second s) in
      let cut : take (length ss - 1 - 1) ss ≡ e.before =
      ap (λ k. take k ss) front ∙ ap (λ (v : List Step). take (length e.before) v) e.all ∙ take-append_seam e.before (e.first ∷ e.second ∷ []) in
      ap (λ v. list_any (passes_all doc (out-Step s).predicates) (rows_in doc (path doc xs (map (walk_of doc) v)) (λ x. axis_list doc x axis.Descendant (out-Step s).test))) cut
      ∙ ap (λ v. list_any (passes_all doc (out-Step v).predicates) (rows_in doc (path doc xs (map (walk_of doc) e.before)) (λ x. axis_list doc x axis.Descendant (out-Step v).test))) (sym same)
      ∙ any_ends xs ss e d
