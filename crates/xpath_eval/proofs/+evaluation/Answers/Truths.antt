-- Whether an expression holds, and whether a path gives a row.
use Rattle.std.proofs.Common.{rules, arith, ◌≡◌, sym, ◌∙◌, ap, subst, ℕ, ◌-◌, List, length, take, map}
use Rattle.std.specs.Prelude.{IfOk}
use Rattle.std.specs.List.{All, list_any, list_all}
use Rattle.doc_model.specs.RowLists.{AllBelow}
use Rattle.doc_model.specs.Axes.{axis_list}
use Rattle.doc_model.specs.declared.Axis.TheVariants as axis
use Rattle.xpath_values.specs.declared.value.Value.{Value}
use Rattle.xpath_values.specs.declared.value.Value.TheVariants.{Bool as Truth}
use Rattle.xpath_parser.specs.declared.expression.Expr.{Expr}
use Rattle.xpath_parser.specs.declared.expression.Func.TheVariants as f
use Rattle.xpath_parser.specs.declared.expression.Step.{out-Step}
use Rattle.xpath_parser.specs.Conversions as conversions
use Rattle.xpath_parser.specs.Functions.{called}
use Rattle.xpath_parser.specs.Denote as spec
use Rattle.xpath_parser.proofs.Equations as eqs
use Rattle.xpath_eval.specs.inner.Places.{context}
use Rattle.xpath_eval.specs.inner.Tests.{AreTests, passes_all}
use Rattle.xpath_parser.specs.Asking.{AsksOnly, StepAsks}
use Rattle.xpath_parser.specs.declared.expression.Step as step
use Rattle.xpath_eval.proofs.Asks as asks
use Rattle.xpath_eval.proofs.Covering as covering
use Rattle.xpath_eval.proofs.Found as found
use Rattle.xpath_eval.proofs.Gathers as gathers
use Rattle.xpath_eval.proofs.Kept as kept
use Rattle.xpath_eval.proofs.Lists as lists
use Rattle.xpath_eval.proofs.+evaluation.Goals as goal

pub is_true-returns-in-Or : goal.truths::is_true-returns-in-Or
is_true-returns-in-Or g t c =
    let doc = g.S.Tree.document c.args.source.now in
    let at = context c.args.place in
    subst (λ w. IfOk c.any.result (λ b. b ≡ w))
    (ap (list_any (λ x. conversions.truth_of (spec.denote doc x at))) c.as_slice.ensures
    ∙ ap conversions.truth_of (sym (eqs.at_or doc c.in-Or.es at) ∙ sym (ap (λ x. spec.denote doc x at) c.in-Or.is)))
    c.any.ensures

pub is_true-returns-in-And : goal.truths::is_true-returns-in-And
is_true-returns-in-And g t c =
    let doc = g.S.Tree.document c.args.source.now in
    let at = context c.args.place in
    subst (λ w. IfOk c.all.result (λ b. b ≡ w))
    (ap (list_all (λ x. conversions.truth_of (spec.denote doc x at))) c.as_slice-in-And.ensures
    ∙ ap conversions.truth_of (sym (eqs.at_and doc c.in-And.es at) ∙ sym (ap (λ x. spec.denote doc x at) c.in-And.is)))
    c.all.ensures

pub is_true-returns-in-Path : goal.truths::is_true-returns-in-Path
is_true-returns-in-Path g t c =
    let doc = g.S.Tree.document c.args.source.now in
    let at = context c.args.place in
    subst (λ w. IfOk c.finds.result (λ b. b ≡ w))
    (ap (λ r. conversions.is_any (spec.path doc r (map (spec.walk_of doc) c.as_slice-in-Path.result.now))) c.in_ok-rows-in-Path.ensures.rows
    ∙ ap (λ ss. conversions.is_any (spec.path doc (spec.start_of doc c.in-Path.start at) (map (spec.walk_of doc) ss))) c.as_slice-in-Path.ensures
    ∙ ap conversions.truth_of (sym (eqs.at_path doc c.in-Path.start c.in-Path.steps at) ∙ sym (ap (λ x. spec.denote doc x at) c.in-Path.is)))
    c.finds.ensures

pub is_true-returns-then-is_not : goal.truths::is_true-returns-then-is_not
is_true-returns-then-is_not g t c =
    let doc = g.S.Tree.document c.args.source.now in
    let at = context c.args.place in
    let es = c.in-Call.es in
    let values : List Expr → List Value = map (λ x. spec.denote doc x at) in
    lists.if_ok_from c.first_is_false.result (λ b. Truth b ≡ called doc f.Not (values c.as_slice-then-is_not.result.now) at) (λ b. b ≡ conversions.truth_of (spec.denote doc c.args.e.now at))
    (λ b is. ap conversions.truth_of (is ∙ ap (λ v. called doc f.Not (values v) at) c.as_slice-then-is_not.ensures
    ∙ ap (λ v. called doc v (values es) at) (sym (c.is_not.ensures c.if-is_not.true)) ∙ sym (eqs.at_call doc c.in-Call.func es at) ∙ sym (ap (λ x. spec.denote doc x at) c.in-Call.is)))
    c.first_is_false.ensures

pub gives-returns-then-are_tests : goal.truths::gives-returns-then-are_tests
gives-returns-then-are_tests g t c =
    let doc = g.S.Tree.document c.args.source.now in
    subst (λ w. IfOk c.tested.result (λ b. b ≡ w))
    (found.any_tested doc c.args.step.now c.args.rows.now (subst AreTests c.as_slice.ensures (c.are_tests.ensures c.if-are_tests.true)))
    c.tested.ensures

pub tested-returns-then-may_cover : goal.truths::tested-returns-then-may_cover
tested-returns-then-may_cover g t c =
    let doc = g.S.Tree.document c.args.source.now in
    let s = out-Step c.args.step.now in
    let w : ℕ → List ℕ = λ x. axis_list doc x c.args.axis s.test in
    subst (λ v. IfOk c.each_tested.result (λ b. b ≡ v))
    (ap (list_any (λ x. list_any (passes_all doc s.predicates) (w x))) c.as_slice.ensures.value
    ∙ found.any_in doc (passes_all doc s.predicates) c.in_ok-few.few.items w (λ x. kept.axis_below doc x c.args.axis s.test)
    ∙ ap (list_any (passes_all doc s.predicates)) (covering.covered_rows doc c.args.axis s.test c.args.rows.now c.in_ok-few.few.items c.in_ok-few.ensures.covers))
    c.each_tested.ensures

pub tested-returns : goal.truths::tested-returns
tested-returns g t c =
    let doc = g.S.Tree.document c.args.source.now in
    let s = out-Step c.args.step.now in
    subst (λ v. IfOk c.each_tested-2.result (λ b. b ≡ v))
    (found.any_in doc (passes_all doc s.predicates) c.args.rows.now (λ x. axis_list doc x c.args.axis s.test) (λ x. kept.axis_below doc x c.args.axis s.test))
    c.each_tested-2.ensures

pub tested_from-returns : goal.truths::tested_from-returns
tested_from-returns g t c =
    let doc = g.S.Tree.document c.args.source.now in
    let s = out-Step c.args.step.now in
    subst (λ v. IfOk c.one_passes.result (λ b. b ≡ v))
    (ap (λ ps. list_any (passes_all doc ps) c.as_slice.result.now) c.as_slice-2.ensures
    ∙ ap (list_any (passes_all doc s.predicates)) (c.as_slice.ensures.value ∙ c.in_ok-rows.ensures.rows))
    c.one_passes.ensures

pub finds-returns-then-ends_below : goal.truths::finds-returns-then-ends_below
finds-returns-then-ends_below g t c =
    let doc = g.S.Tree.document c.args.source.now in
    let s = c.index-steps-last.result in
    let ss = c.args.steps.now in
    subst (λ v. IfOk c.tested.result (λ b. b ≡ v))
    (ap (λ r. list_any (passes_all doc (out-Step s).predicates) (spec.rows_in doc r (λ x. axis_list doc x axis.Descendant (out-Step s).test))) (c.as_slice.ensures ∙ c.in_ok-rows.ensures)
    ∙ found.any_below doc c.args.start ss s (g.met.S.Tree.is_document c.args.source.now) (c.ends_below.ensures.steps c.if-ends_below.true) c.index-steps-last.is)
    c.tested.ensures

pub finds-returns : goal.truths::finds-returns
finds-returns g t c =
    let doc = g.S.Tree.document c.args.source.now in
    let s = c.index-steps-last-2.result in
    let ss = c.args.steps.now in
    let some = c.if-steps-eq0.false in
    subst (λ v. IfOk c.gives.result (λ b. b ≡ v))
    (ap (λ r. conversions.is_any (spec.rows_in doc r (spec.walk_of doc s))) (c.as_slice-2.ensures ∙ c.in_ok-rows-2.ensures)
    ∙ found.any_last doc c.args.start ss s (length ss - 1) (omega (arith, some)) c.index-steps-last-2.is)
    c.gives.ensures

pub finds-tested-requires : goal.truths::finds-tested-requires
finds-tested-requires g t c =
    let doc = g.S.Tree.document c.args.source.now in
    let ss = c.args.steps.now in
    let some = c.if-steps-eq0.false in
    let part = asks.at_one (StepAsks (g.Q.Asks.kinds c.args.tests.now)) ss (length ss - 1) c.index-steps-last.result c.index-steps-last.is (omega (arith, some)) c.requires.tests in
    let below = gathers.path_below doc c.args.start (map (spec.walk_of doc) (take (length ss - 1 - 1) ss)) c.as_slice.result.now (c.as_slice.ensures ∙ c.in_ok-rows.ensures) c.requires.rows in
    search (rules, step.the_lemmas)

pub finds-gives-requires : goal.truths::finds-gives-requires
finds-gives-requires g t c =
    let doc = g.S.Tree.document c.args.source.now in
    let ss = c.args.steps.now in
    let some = c.if-steps-eq0.false in
    let part = asks.at_one (StepAsks (g.Q.Asks.kinds c.args.tests.now)) ss (length ss - 1) c.index-steps-last-2.result c.index-steps-last-2.is (omega (arith, some)) c.requires.tests in
    let below = gathers.path_below doc c.args.start (map (spec.walk_of doc) (take (length ss - 1) ss)) c.as_slice-2.result.now (c.as_slice-2.ensures ∙ c.in_ok-rows-2.ensures) c.requires.rows in
    search (rules, step.the_lemmas)

pub tested_from-one_passes-requires : goal.truths::tested_from-one_passes-requires
tested_from-one_passes-requires g t c =
    let doc = g.S.Tree.document c.args.source.now in
    let part = subst (All (AsksOnly (g.Q.Asks.kinds c.args.tests.now))) (sym c.as_slice-2.ensures) c.requires.tests in
    let below = subst (AllBelow (length doc)) (sym c.as_slice.ensures.value) c.in_ok-rows.ensures.below in
    search (rules, step.the_lemmas)
