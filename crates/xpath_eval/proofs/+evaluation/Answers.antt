mod Loops
mod Forms
mod Truths
use Rattle.std.proofs.Common.{rules, arith, ◌≡◌, refl, sym, ◌∙◌, ap, subst, ◌+◌, ◌-◌, ◌<◌, ◌≤◌, length, map}
use Rattle.std.specs.Prelude.{IfOk}
use Rattle.std.specs.List.{All}
use Rattle.std.proofs.lemmas.List.{take_all}
use Rattle.doc_model.specs.Axes.{axis_list}
use Rattle.doc_model.specs.declared.Axis.TheVariants as axis
use Rattle.xpath_values.specs.declared.value.Value.TheVariants.{Num, Str}
use Rattle.xpath_parser.specs.declared.expression.Step.{out-Step}
use Rattle.xpath_parser.specs.Conversions.{rows_of}
use Rattle.xpath_parser.specs.Denote as spec
use Rattle.xpath_parser.proofs.Equations as eqs
use Rattle.xpath_eval.specs.inner.Places.{context}
use Rattle.xpath_values.specs.Numbers.{whole}
use Rattle.xpath_eval.specs.inner.Tests.{AreTests}
use Rattle.xpath_parser.specs.Asking.{AsksOnly, OperandAsks, StepAsks}
use Rattle.xpath_parser.specs.declared.expression.Expr as expr
use Rattle.xpath_parser.specs.declared.expression.Operand as operand
use Rattle.xpath_parser.specs.declared.expression.Start as start
use Rattle.xpath_parser.specs.declared.expression.Step as step
use Rattle.xpath_eval.proofs.Asks as asks
use Rattle.xpath_eval.proofs.Counting as counting
use Rattle.xpath_eval.proofs.Filtering as filtering
use Rattle.xpath_eval.proofs.Found as found
use Rattle.xpath_eval.proofs.Gathers as gathers
use Rattle.xpath_eval.proofs.Kept as kept
use Rattle.xpath_eval.proofs.Lists as lists
use Rattle.xpath_eval.proofs.+evaluation.Goals as goal
use Rattle.xpath_eval.proofs.+evaluation.Answers.Loops as loops
use Rattle.xpath_eval.proofs.+evaluation.Answers.Forms as forms
use Rattle.xpath_eval.proofs.+evaluation.Answers.Truths as truths

-- ---- loops

pub evaluation::from_each-loop-x-preserved : goal.evaluation::from_each-loop-x-preserved
evaluation::from_each-loop-x-preserved = loops.from_each-loop-x-preserved

pub evaluation::from_each-returns : goal.evaluation::from_each-returns
evaluation::from_each-returns g t c =
    let doc = g.S.Tree.document c.args.source.now in
    c.from_vec.ensures ∙ gathers.gathered_whole doc c.args.rows.now c.loop-x.x-index (spec.walk_of doc c.args.step.now) c.loop-x.found.items c.ordered.result.items
    c.loop-x.invariant c.loop-x-test.false c.ordered.ensures.same c.ordered.ensures.order

pub evaluation::union-loop-e-preserved : goal.evaluation::union-loop-e-preserved
evaluation::union-loop-e-preserved = loops.union-loop-e-preserved

pub evaluation::union-returns : goal.evaluation::union-returns
evaluation::union-returns = loops.union-returns

pub predicates::filtered-loop-predicate-preserved : goal.predicates::filtered-loop-predicate-preserved
predicates::filtered-loop-predicate-preserved = loops.filtered-loop-predicate-preserved

pub evaluation::first_steps-loop-i-preserved-then-is_tested_child : goal.evaluation::first_steps-loop-i-preserved-then-is_tested_child
evaluation::first_steps-loop-i-preserved-then-is_tested_child = loops.first_steps-loop-i-preserved-then-is_tested_child

pub evaluation::first_steps-loop-i-preserved : goal.evaluation::first_steps-loop-i-preserved
evaluation::first_steps-loop-i-preserved = loops.first_steps-loop-i-preserved

pub evaluation::first_steps-loop-i-init : goal.evaluation::first_steps-loop-i-init
evaluation::first_steps-loop-i-init g t c = let doc = g.S.Tree.document c.args.source.now in record { path = refl; rows = c.requires.rows; below = lists.run_below 0 (length doc) c.args.start c.requires.rows }

pub evaluation::values-loop-e-preserved : goal.evaluation::values-loop-e-preserved
evaluation::values-loop-e-preserved = loops.values-loop-e-preserved

pub evaluation::joined-applied-requires-clause-left : goal.evaluation::joined-applied-requires-clause-left
evaluation::joined-applied-requires-clause-left g t c = lists.run_below 0 (length (g.S.Tree.document c.args.source.now)) (rows_of c.loop-operand.value) c.loop-operand.invariant.rows

pub evaluation::joined-applied-requires-clause-right : goal.evaluation::joined-applied-requires-clause-right
evaluation::joined-applied-requires-clause-right g t c = lists.run_below 0 (length (g.S.Tree.document c.args.source.now)) (rows_of c.in_ok-right.right) c.in_ok-right.ensures.rows

-- ---- what calls require

pub evaluation::walk-returns : goal.evaluation::walk-returns
evaluation::walk-returns g t c =
    let doc = g.S.Tree.document c.args.source.now in
    let s = c.args.step.now in
    c.in_ok-filtered.ensures ∙ ap (λ ps. spec.kept (map (spec.denote doc) ps) c.in_ok-rows.rows.items) c.as_slice.ensures
    ∙ c.in_ok-rows.ensures.kept

pub evaluation::value_at-number_of-requires : goal.evaluation::value_at-number_of-requires
evaluation::value_at-number_of-requires g t c = lists.run_below 0 (length (g.S.Tree.document c.args.source.now)) (rows_of c.in_ok-value-in-Minus.value) c.in_ok-value-in-Minus.ensures.rows

-- ---- where a path starts

pub evaluation::started-returns-in_ok-from_slice-in-Here-clause-rows : goal.evaluation::started-returns-in_ok-from_slice-in-Here-clause-rows
evaluation::started-returns-in_ok-from_slice-in-Here-clause-rows g t c =
    let doc = g.S.Tree.document c.args.source.now in
    let at = context c.args.place in
    c.in_ok-from_slice-in-Here.ensures ∙ sym (eqs.at_here doc at) ∙ sym (ap (λ s. spec.start_of doc s at) c.in-Here.is)

pub evaluation::started-returns-in_ok-from_slice-in-Root-clause-rows : goal.evaluation::started-returns-in_ok-from_slice-in-Root-clause-rows
evaluation::started-returns-in_ok-from_slice-in-Root-clause-rows g t c =
    let doc = g.S.Tree.document c.args.source.now in
    let at = context c.args.place in
    c.in_ok-from_slice-in-Root.ensures ∙ sym (eqs.at_root doc at) ∙ sym (ap (λ s. spec.start_of doc s at) c.in-Root.is)

pub evaluation::started-returns-in_ok-value-in-From-clause-rows : goal.evaluation::started-returns-in_ok-value-in-From-clause-rows
evaluation::started-returns-in_ok-value-in-From-clause-rows g t c =
    let doc = g.S.Tree.document c.args.source.now in
    let at = context c.args.place in
    c.nodes.ensures ∙ ap rows_of (c.in_ok-value-in-From.ensures.value ∙ ap (λ x. spec.denote doc x at) c.get.ensures)
    ∙ sym (eqs.at_from doc c.in-From.e at) ∙ sym (ap (λ s. spec.start_of doc s at) c.in-From.is)

-- ---- each form

pub evaluation::value_at-returns-in_ok-any-in-Or-clause-value : goal.evaluation::value_at-returns-in_ok-any-in-Or-clause-value
evaluation::value_at-returns-in_ok-any-in-Or-clause-value = forms.value_at-returns-in_ok-any-in-Or-clause-value

pub evaluation::value_at-returns-in_ok-all-in-And-clause-value : goal.evaluation::value_at-returns-in_ok-all-in-And-clause-value
evaluation::value_at-returns-in_ok-all-in-And-clause-value = forms.value_at-returns-in_ok-all-in-And-clause-value

pub evaluation::value_at-returns-in_ok-value-in-Joined-clause-value : goal.evaluation::value_at-returns-in_ok-value-in-Joined-clause-value
evaluation::value_at-returns-in_ok-value-in-Joined-clause-value = forms.value_at-returns-in_ok-value-in-Joined-clause-value

pub evaluation::value_at-returns-in_ok-number_of-in-Minus-clause-value : goal.evaluation::value_at-returns-in_ok-number_of-in-Minus-clause-value
evaluation::value_at-returns-in_ok-number_of-in-Minus-clause-value = forms.value_at-returns-in_ok-number_of-in-Minus-clause-value

pub evaluation::value_at-returns-in_ok-union-in-Union-clause-value : goal.evaluation::value_at-returns-in_ok-union-in-Union-clause-value
evaluation::value_at-returns-in_ok-union-in-Union-clause-value = forms.value_at-returns-in_ok-union-in-Union-clause-value

pub evaluation::value_at-returns-in_ok-union-in-Union-clause-rows : goal.evaluation::value_at-returns-in_ok-union-in-Union-clause-rows
evaluation::value_at-returns-in_ok-union-in-Union-clause-rows = forms.value_at-returns-in_ok-union-in-Union-clause-rows

pub evaluation::value_at-returns-in_ok-path-in-Path-clause-value : goal.evaluation::value_at-returns-in_ok-path-in-Path-clause-value
evaluation::value_at-returns-in_ok-path-in-Path-clause-value = forms.value_at-returns-in_ok-path-in-Path-clause-value

pub evaluation::value_at-returns-in_ok-path-in-Path-clause-rows : goal.evaluation::value_at-returns-in_ok-path-in-Path-clause-rows
evaluation::value_at-returns-in_ok-path-in-Path-clause-rows = forms.value_at-returns-in_ok-path-in-Path-clause-rows

pub evaluation::value_at-returns-in_ok-filter-in-Filter-clause-value : goal.evaluation::value_at-returns-in_ok-filter-in-Filter-clause-value
evaluation::value_at-returns-in_ok-filter-in-Filter-clause-value = forms.value_at-returns-in_ok-filter-in-Filter-clause-value

pub evaluation::value_at-returns-in_ok-filter-in-Filter-clause-rows : goal.evaluation::value_at-returns-in_ok-filter-in-Filter-clause-rows
evaluation::value_at-returns-in_ok-filter-in-Filter-clause-rows = forms.value_at-returns-in_ok-filter-in-Filter-clause-rows

pub evaluation::value_at-returns-in_ok-of-in-Literal-clause-value : goal.evaluation::value_at-returns-in_ok-of-in-Literal-clause-value
evaluation::value_at-returns-in_ok-of-in-Literal-clause-value g t c =
    let doc = g.S.Tree.document c.args.source.now in
    let at = context c.args.place in
    ap Str (c.in_ok-of-in-Literal.ensures ∙ c.as_str.ensures.chars) ∙ sym (eqs.at_literal doc c.in-Literal.text at) ∙ sym (ap (λ x. spec.denote doc x at) c.in-Literal.is)

pub evaluation::value_at-returns-in-Number-clause-value : goal.evaluation::value_at-returns-in-Number-clause-value
evaluation::value_at-returns-in-Number-clause-value g t c =
    let doc = g.S.Tree.document c.args.source.now in
    let at = context c.args.place in
    ap Num c.literal_number.ensures ∙ sym (eqs.at_number doc c.in-Number.n at) ∙ sym (ap (λ x. spec.denote doc x at) c.in-Number.is)

pub evaluation::value_at-returns-in_ok-args-in-Call-clause-value : goal.evaluation::value_at-returns-in_ok-args-in-Call-clause-value
evaluation::value_at-returns-in_ok-args-in-Call-clause-value = forms.value_at-returns-in_ok-args-in-Call-clause-value

pub evaluation::value_at-returns-in_ok-args-in-Call-clause-rows : goal.evaluation::value_at-returns-in_ok-args-in-Call-clause-rows
evaluation::value_at-returns-in_ok-args-in-Call-clause-rows = forms.value_at-returns-in_ok-args-in-Call-clause-rows

-- ---- shorter ways

pub evaluation::after-returns-then-are_tests : goal.evaluation::after-returns-then-are_tests
evaluation::after-returns-then-are_tests g t c =
    let doc = g.S.Tree.document c.args.source.now in
    let s = c.args.step.now in
    c.from_vec.ensures ∙ c.in_ok-filtered.ensures
    ∙ ap (λ ps. spec.kept (map (spec.denote doc) ps) c.in_ok-found.found.items) c.as_slice-then-are_tests.ensures
    ∙ ap (spec.kept (map (spec.denote doc) (out-Step s).predicates)) c.in_ok-found.ensures.rows
    ∙ filtering.tested_after doc s c.args.rows.now (subst AreTests c.as_slice.ensures (c.are_tests.ensures c.if-are_tests.true))

pub predicates::kept-returns-in-Number : goal.predicates::kept-returns-in-Number
predicates::kept-returns-in-Number g t c =
    let doc = g.S.Tree.document c.args.source.now in
    let rows = c.args.rows.now.items in
    c.only.ensures ∙ kept.kept_from_same (λ at. Num (whole c.in-Number.n)) (spec.denote doc c.args.predicate.now) (λ at. sym (eqs.at_number doc c.in-Number.n at) ∙ sym (ap (λ x. spec.denote doc x at) c.in-Number.is))
    (length rows) 1 rows

pub evaluation::value_at-returns-in-Some-clause-value : goal.evaluation::value_at-returns-in-Some-clause-value
evaluation::value_at-returns-in-Some-clause-value = forms.value_at-returns-in-Some-clause-value

-- ---- the parts ask no more than the whole

pub truths::all-is_true-requires : goal.truths::all-is_true-requires
truths::all-is_true-requires g t c =
    let part = asks.at_one (AsksOnly (g.Q.Asks.kinds c.args.tests.now)) c.args.es.now c.loop-e.e-index c.e-item.result c.e-item.is c.loop-e-test.true c.requires.tests in
    search (rules, expr.the_lemmas)

pub truths::any-is_true-requires : goal.truths::any-is_true-requires
truths::any-is_true-requires g t c =
    let part = asks.at_one (AsksOnly (g.Q.Asks.kinds c.args.tests.now)) c.args.es.now c.loop-e.e-index c.e-item.result c.e-item.is c.loop-e-test.true c.requires.tests in
    search (rules, expr.the_lemmas)

pub evaluation::union-value_at-requires : goal.evaluation::union-value_at-requires
evaluation::union-value_at-requires g t c =
    let part = asks.at_one (AsksOnly (g.Q.Asks.kinds c.args.tests.now)) c.args.es.now c.loop-e.e-index c.e-item.result c.e-item.is c.loop-e-test.true c.requires.tests in
    search (rules, expr.the_lemmas)

pub evaluation::values-value_at-requires : goal.evaluation::values-value_at-requires
evaluation::values-value_at-requires g t c =
    let part = asks.at_one (AsksOnly (g.Q.Asks.kinds c.args.tests.now)) c.args.es.now c.loop-e.e-index c.e-item.result c.e-item.is c.loop-e-test.true c.requires.tests in
    search (rules, expr.the_lemmas)

pub evaluation::joined-value_at-requires : goal.evaluation::joined-value_at-requires
evaluation::joined-value_at-requires g t c =
    let part = asks.at_one (OperandAsks (g.Q.Asks.kinds c.args.tests.now)) c.args.operands.now c.loop-operand.operand-index c.operand-item.result c.operand-item.is c.loop-operand-test.true c.requires.tests in
    search (rules, operand.the_lemmas)

pub predicates::filtered-kept-requires : goal.predicates::filtered-kept-requires
predicates::filtered-kept-requires g t c =
    let part = asks.at_one (AsksOnly (g.Q.Asks.kinds c.args.tests.now)) c.args.predicates.now c.loop-predicate.predicate-index c.predicate-item.result c.predicate-item.is c.loop-predicate-test.true c.requires.tests in
    search (rules, expr.the_lemmas)

pub evaluation::first_steps-all_below-requires : goal.evaluation::first_steps-all_below-requires
evaluation::first_steps-all_below-requires g t c =
    let less : c.loop-i.i + 1 < c.args.count = c.if-i-count.true in
    let few : c.args.count ≤ length c.args.steps.now = c.requires.count in
    let part = asks.at_one (StepAsks (g.Q.Asks.kinds c.args.tests.now)) c.args.steps.now (c.loop-i.i + 1) c.index-steps-i-then-is_tested_child.result c.index-steps-i-then-is_tested_child.is (omega (arith, less, few)) c.requires.tests in
    search (rules, step.the_lemmas)

pub evaluation::first_steps-after-requires : goal.evaluation::first_steps-after-requires
evaluation::first_steps-after-requires g t c =
    let less : c.loop-i.i < c.args.count = c.loop-i-test.true in
    let few : c.args.count ≤ length c.args.steps.now = c.requires.count in
    let part = asks.at_one (StepAsks (g.Q.Asks.kinds c.args.tests.now)) c.args.steps.now c.loop-i.i c.index-steps-i-else-i-count.result c.index-steps-i-else-i-count.is (omega (arith, less, few)) c.requires.tests in
    search (rules, step.the_lemmas)

pub evaluation::after-filtered-requires : goal.evaluation::after-filtered-requires
evaluation::after-filtered-requires g t c =
    let part = subst (All (AsksOnly (g.Q.Asks.kinds c.args.tests.now))) (sym c.as_slice-then-are_tests.ensures) c.requires.tests in
    search (rules, step.the_lemmas)

pub evaluation::all_below-filtered-requires : goal.evaluation::all_below-filtered-requires
evaluation::all_below-filtered-requires g t c =
    let part = subst (All (AsksOnly (g.Q.Asks.kinds c.args.tests.now))) (sym c.as_slice.ensures) c.requires.tests in
    search (rules, step.the_lemmas)

pub evaluation::walk-filtered-requires : goal.evaluation::walk-filtered-requires
evaluation::walk-filtered-requires g t c =
    let part = subst (All (AsksOnly (g.Q.Asks.kinds c.args.tests.now))) (sym c.as_slice.ensures) c.requires.tests in
    search (rules, step.the_lemmas)

pub evaluation::started-value_at-requires : goal.evaluation::started-value_at-requires
evaluation::started-value_at-requires g t c =
    let part = subst (AsksOnly (g.Q.Asks.kinds c.args.tests.now)) (sym c.get.ensures) (c.requires.tests c.in-From.e c.in-From.is) in
    search (rules, start.the_lemmas)

pub evaluation::value_at-any-requires : goal.evaluation::value_at-any-requires
evaluation::value_at-any-requires g t c =
    let part = asks.or_asks _ c.args.e.now c.requires.tests c.in-Or.es c.as_slice.result.now c.in-Or.is c.as_slice.ensures in
    search (rules, expr.the_lemmas)

pub evaluation::value_at-all-requires : goal.evaluation::value_at-all-requires
evaluation::value_at-all-requires g t c =
    let part = asks.and_asks _ c.args.e.now c.requires.tests c.in-And.es c.as_slice-in-And.result.now c.in-And.is c.as_slice-in-And.ensures in
    search (rules, expr.the_lemmas)

pub evaluation::value_at-value_at-requires : goal.evaluation::value_at-value_at-requires
evaluation::value_at-value_at-requires g t c =
    let part = asks.first_asks _ c.args.e.now c.requires.tests c.in-Joined.first c.get.result.now c.in-Joined.operands c.in-Joined.is c.get.ensures in
    search (rules, expr.the_lemmas)

pub evaluation::value_at-joined-requires : goal.evaluation::value_at-joined-requires
evaluation::value_at-joined-requires g t c =
    let part = asks.operands_ask _ c.args.e.now c.requires.tests c.in-Joined.first c.in-Joined.operands c.as_slice-in-Joined.result.now c.in-Joined.is c.as_slice-in-Joined.ensures in
    search (rules, expr.the_lemmas)

pub evaluation::value_at-value_at-requires-in-Minus : goal.evaluation::value_at-value_at-requires-in-Minus
evaluation::value_at-value_at-requires-in-Minus g t c =
    let part = asks.minus_asks _ c.args.e.now c.requires.tests c.in-Minus.signs c.in-Minus.operand c.get-in-Minus.result.now c.in-Minus.is c.get-in-Minus.ensures in
    search (rules, expr.the_lemmas)

pub evaluation::value_at-union-requires : goal.evaluation::value_at-union-requires
evaluation::value_at-union-requires g t c =
    let part = asks.union_asks _ c.args.e.now c.requires.tests c.in-Union.es c.as_slice-in-Union.result.now c.in-Union.is c.as_slice-in-Union.ensures in
    search (rules, expr.the_lemmas)

pub evaluation::value_at-started-requires : goal.evaluation::value_at-started-requires
evaluation::value_at-started-requires g t c =
    let part = asks.start_asks _ c.args.e.now c.requires.tests c.in-Path.start c.in-Path.steps c.in-Path.is in
    search (rules, expr.the_lemmas)

pub evaluation::value_at-path-requires : goal.evaluation::value_at-path-requires
evaluation::value_at-path-requires g t c =
    let part = asks.steps_ask _ c.args.e.now c.requires.tests c.in-Path.start c.in-Path.steps c.as_slice-in-Path.result.now c.in-Path.is c.as_slice-in-Path.ensures in
    search (rules, expr.the_lemmas)

pub evaluation::value_at-value_at-requires-in-Filter : goal.evaluation::value_at-value_at-requires-in-Filter
evaluation::value_at-value_at-requires-in-Filter g t c =
    let part = asks.filtered_asks _ c.args.e.now c.requires.tests c.in-Filter.filtered c.get-in-Filter.result.now c.in-Filter.predicates c.in-Filter.is c.get-in-Filter.ensures in
    search (rules, expr.the_lemmas)

pub evaluation::value_at-filter-requires : goal.evaluation::value_at-filter-requires
evaluation::value_at-filter-requires g t c =
    let part = asks.filters_ask _ c.args.e.now c.requires.tests c.in-Filter.filtered c.in-Filter.predicates c.as_slice-in-Filter.result.now c.in-Filter.is c.as_slice-in-Filter.ensures in
    search (rules, expr.the_lemmas)

pub evaluation::value_at-values-requires : goal.evaluation::value_at-values-requires
evaluation::value_at-values-requires g t c =
    let part = asks.args_ask _ c.args.e.now c.requires.tests c.in-Call.func c.in-Call.es c.as_slice-in-Call.result.now c.in-Call.is c.as_slice-in-Call.ensures in
    search (rules, expr.the_lemmas)

pub evaluation::value_at-called-requires-clause-kind : goal.evaluation::value_at-called-requires-clause-kind
evaluation::value_at-called-requires-clause-kind g t c =
    asks.called_asks (g.Q.Asks.kinds c.args.tests.now) c.args.e.now c.requires.tests c.in-Call.func c.in-Call.es c.in-Call.is

-- ---- truths

pub truths::is_true-returns-in-Or : goal.truths::is_true-returns-in-Or
truths::is_true-returns-in-Or = truths.is_true-returns-in-Or

pub truths::is_true-returns-in-And : goal.truths::is_true-returns-in-And
truths::is_true-returns-in-And = truths.is_true-returns-in-And

pub truths::is_true-returns-in-Path : goal.truths::is_true-returns-in-Path
truths::is_true-returns-in-Path = truths.is_true-returns-in-Path

pub truths::is_true-returns-then-is_not : goal.truths::is_true-returns-then-is_not
truths::is_true-returns-then-is_not = truths.is_true-returns-then-is_not

pub truths::gives-returns-then-are_tests : goal.truths::gives-returns-then-are_tests
truths::gives-returns-then-are_tests = truths.gives-returns-then-are_tests

pub truths::gives-returns : goal.truths::gives-returns
truths::gives-returns g t c =
    subst (λ w. IfOk c.walks.result (λ b. b ≡ w)) (found.any_walked (g.S.Tree.document c.args.source.now) c.args.step.now c.args.rows.now) c.walks.ensures

pub truths::tested-returns-then-may_cover : goal.truths::tested-returns-then-may_cover
truths::tested-returns-then-may_cover = truths.tested-returns-then-may_cover

pub truths::tested-returns : goal.truths::tested-returns
truths::tested-returns = truths.tested-returns

pub truths::tested_from-returns-then-len-eq0 : goal.truths::tested_from-returns-then-len-eq0
truths::tested_from-returns-then-len-eq0 g t c =
    let doc = g.S.Tree.document c.args.source.now in
    let s = out-Step c.args.step.now in
    c.axis_any.ensures ∙ found.any_plain doc s.predicates (axis_list doc c.args.x c.args.axis s.test) (sym c.len.ensures ∙ c.if-len-eq0.true)

pub truths::tested_from-returns : goal.truths::tested_from-returns
truths::tested_from-returns = truths.tested_from-returns

pub truths::finds-returns-then-ends_below : goal.truths::finds-returns-then-ends_below
truths::finds-returns-then-ends_below = truths.finds-returns-then-ends_below

pub truths::finds-returns : goal.truths::finds-returns
truths::finds-returns = truths.finds-returns

pub truths::finds-tested-requires : goal.truths::finds-tested-requires
truths::finds-tested-requires = truths.finds-tested-requires

pub truths::finds-gives-requires : goal.truths::finds-gives-requires
truths::finds-gives-requires = truths.finds-gives-requires

pub truths::tested_from-one_passes-requires : goal.truths::tested_from-one_passes-requires
truths::tested_from-one_passes-requires = truths.tested_from-one_passes-requires

pub truths::first_is_false-is_true-requires : goal.truths::first_is_false-is_true-requires
truths::first_is_false-is_true-requires g t c =
    let some = c.if-es-eq0.false in
    let part = asks.at_one (AsksOnly (g.Q.Asks.kinds c.args.tests.now)) c.args.es.now 0 c.index-es-0.result c.index-es-0.is (omega (arith, some)) c.requires.tests in
    search (rules, expr.the_lemmas)

pub truths::is_true-any-requires : goal.truths::is_true-any-requires
truths::is_true-any-requires g t c =
    let part = asks.or_asks _ c.args.e.now c.requires.tests c.in-Or.es c.as_slice.result.now c.in-Or.is c.as_slice.ensures in
    search (rules, expr.the_lemmas)

pub truths::is_true-all-requires : goal.truths::is_true-all-requires
truths::is_true-all-requires g t c =
    let part = asks.and_asks _ c.args.e.now c.requires.tests c.in-And.es c.as_slice-in-And.result.now c.in-And.is c.as_slice-in-And.ensures in
    search (rules, expr.the_lemmas)

pub truths::is_true-started-requires : goal.truths::is_true-started-requires
truths::is_true-started-requires g t c =
    let part = asks.start_asks _ c.args.e.now c.requires.tests c.in-Path.start c.in-Path.steps c.in-Path.is in
    search (rules, expr.the_lemmas)

pub truths::is_true-finds-requires : goal.truths::is_true-finds-requires
truths::is_true-finds-requires g t c =
    let part = asks.steps_ask _ c.args.e.now c.requires.tests c.in-Path.start c.in-Path.steps c.as_slice-in-Path.result.now c.in-Path.is c.as_slice-in-Path.ensures in
    search (rules, expr.the_lemmas)

pub truths::is_true-first_is_false-requires : goal.truths::is_true-first_is_false-requires
truths::is_true-first_is_false-requires g t c =
    let es = c.in-Call.es in
    let part = asks.args_ask _ c.args.e.now c.requires.tests c.in-Call.func es c.as_slice-then-is_not.result.now c.in-Call.is c.as_slice-then-is_not.ensures in
    search (rules, expr.the_lemmas)

pub evaluation::path-returns : goal.evaluation::path-returns
evaluation::path-returns g t c =
    let doc = g.S.Tree.document c.args.source.now in
    subst (λ v. IfOk c.first_steps.result (λ found. found ≡ v)) (ap (λ ss. spec.path doc c.args.start (map (spec.walk_of doc) ss)) (take_all (length c.args.steps.now) c.args.steps.now (omega arith))) c.first_steps.ensures
