-- What each form of an expression gives.
use Rattle.std.proofs.Common.{◌≡◌, sym, ◌∙◌, ap, subst, ℕ, List, length, map}
use Rattle.std.specs.Prelude.{IfOk}
use Rattle.std.specs.List.{list_any, list_all}
use Rattle.xpath_values.specs.declared.value.Value.TheVariants.{Nodes, Num, Bool as Truth}
use Rattle.xpath_parser.specs.declared.expression.Expr.{Expr}
use Rattle.xpath_parser.specs.Conversions as conversions
use Rattle.xpath_parser.specs.Conversions.{rows_of}
use Rattle.xpath_parser.specs.Functions.{called}
use Rattle.xpath_parser.specs.Denote as spec
use Rattle.xpath_parser.proofs.Equations as eqs
use Rattle.xpath_eval.specs.inner.Places.{context}
use Rattle.xpath_eval.specs.Rows.{AreRows}
use Rattle.xpath_eval.proofs.Gathers as gathers
use Rattle.xpath_eval.proofs.Kept as kept
use Rattle.xpath_eval.proofs.Lists as lists
use Rattle.xpath_eval.specs.inner.Steps.{IsLoneStep}
use Rattle.xpath_eval.proofs.Counting as counting
use Rattle.xpath_eval.proofs.+evaluation.Goals as goal

pub value_at-returns-in_ok-any-in-Or-clause-value : goal.evaluation::value_at-returns-in_ok-any-in-Or-clause-value
value_at-returns-in_ok-any-in-Or-clause-value g t c =
    let doc = g.S.Tree.document c.args.source.now in
    let at = context c.args.place in
    ap Truth (c.in_ok-any-in-Or.ensures ∙ ap (list_any (λ x. conversions.truth_of (spec.denote doc x at))) c.as_slice.ensures)
    ∙ sym (eqs.at_or doc c.in-Or.es at) ∙ sym (ap (λ x. spec.denote doc x at) c.in-Or.is)

pub value_at-returns-in_ok-all-in-And-clause-value : goal.evaluation::value_at-returns-in_ok-all-in-And-clause-value
value_at-returns-in_ok-all-in-And-clause-value g t c =
    let doc = g.S.Tree.document c.args.source.now in
    let at = context c.args.place in
    ap Truth (c.in_ok-all-in-And.ensures ∙ ap (list_all (λ x. conversions.truth_of (spec.denote doc x at))) c.as_slice-in-And.ensures)
    ∙ sym (eqs.at_and doc c.in-And.es at) ∙ sym (ap (λ x. spec.denote doc x at) c.in-And.is)

pub value_at-returns-in_ok-value-in-Joined-clause-value : goal.evaluation::value_at-returns-in_ok-value-in-Joined-clause-value
value_at-returns-in_ok-value-in-Joined-clause-value g t c =
    let doc = g.S.Tree.document c.args.source.now in
    let at = context c.args.place in
    subst (λ w. IfOk c.joined.result (λ v. v ≡ w))
    (ap (λ ops. spec.joined doc c.in_ok-value-in-Joined.value (map (λ o. spec.arm_at doc o at) ops)) c.as_slice-in-Joined.ensures
    ∙ ap (λ v. spec.joined doc v (map (λ o. spec.arm_at doc o at) c.in-Joined.operands)) (c.in_ok-value-in-Joined.ensures.value ∙ ap (λ x. spec.denote doc x at) c.get.ensures)
    ∙ sym (eqs.at_joined doc c.in-Joined.first c.in-Joined.operands at) ∙ sym (ap (λ x. spec.denote doc x at) c.in-Joined.is))
    c.joined.ensures.value

pub value_at-returns-in_ok-number_of-in-Minus-clause-value : goal.evaluation::value_at-returns-in_ok-number_of-in-Minus-clause-value
value_at-returns-in_ok-number_of-in-Minus-clause-value g t c =
    let doc = g.S.Tree.document c.args.source.now in
    let at = context c.args.place in
    ap Num (c.signed.ensures ∙ ap (spec.signed c.in-Minus.signs)
    (c.in_ok-number_of-in-Minus.ensures ∙ ap (conversions.number_of doc) (c.in_ok-value-in-Minus.ensures.value ∙ ap (λ x. spec.denote doc x at) c.get-in-Minus.ensures)))
    ∙ sym (eqs.at_minus doc c.in-Minus.signs c.in-Minus.operand at) ∙ sym (ap (λ x. spec.denote doc x at) c.in-Minus.is)

pub value_at-returns-in_ok-union-in-Union-clause-value : goal.evaluation::value_at-returns-in_ok-union-in-Union-clause-value
value_at-returns-in_ok-union-in-Union-clause-value g t c =
    let doc = g.S.Tree.document c.args.source.now in
    let at = context c.args.place in
    let w : Expr → List ℕ = λ x. rows_of (spec.denote doc x at) in
    ap Nodes (c.in_ok-union-in-Union.ensures ∙ ap (λ es. spec.rows_in doc es w) c.as_slice-in-Union.ensures)
    ∙ sym (eqs.at_union doc c.in-Union.es at) ∙ sym (ap (λ x. spec.denote doc x at) c.in-Union.is)

pub value_at-returns-in_ok-union-in-Union-clause-rows : goal.evaluation::value_at-returns-in_ok-union-in-Union-clause-rows
value_at-returns-in_ok-union-in-Union-clause-rows g t c =
    let doc = g.S.Tree.document c.args.source.now in
    let at = context c.args.place in
    let w : Expr → List ℕ = λ x. rows_of (spec.denote doc x at) in
    subst (AreRows doc) (sym c.in_ok-union-in-Union.ensures) (gathers.rows_in_run doc c.as_slice-in-Union.result.now w)

pub value_at-returns-in_ok-path-in-Path-clause-value : goal.evaluation::value_at-returns-in_ok-path-in-Path-clause-value
value_at-returns-in_ok-path-in-Path-clause-value g t c =
    let doc = g.S.Tree.document c.args.source.now in
    let at = context c.args.place in
    ap Nodes (c.in_ok-path-in-Path.ensures ∙ ap (λ r. spec.path doc r (map (spec.walk_of doc) c.as_slice-in-Path.result.now)) c.in_ok-rows-in-Path.ensures.rows
    ∙ ap (λ ss. spec.path doc (spec.start_of doc c.in-Path.start at) (map (spec.walk_of doc) ss)) c.as_slice-in-Path.ensures)
    ∙ sym (eqs.at_path doc c.in-Path.start c.in-Path.steps at) ∙ sym (ap (λ x. spec.denote doc x at) c.in-Path.is)

pub value_at-returns-in_ok-path-in-Path-clause-rows : goal.evaluation::value_at-returns-in_ok-path-in-Path-clause-rows
value_at-returns-in_ok-path-in-Path-clause-rows g t c =
    let doc = g.S.Tree.document c.args.source.now in
    let at = context c.args.place in
    subst (AreRows doc) (sym c.in_ok-path-in-Path.ensures)
    (gathers.path_run doc c.in_ok-rows-in-Path.rows (map (spec.walk_of doc) c.as_slice-in-Path.result.now) c.in_ok-rows-in-Path.ensures.order)

pub value_at-returns-in_ok-filter-in-Filter-clause-value : goal.evaluation::value_at-returns-in_ok-filter-in-Filter-clause-value
value_at-returns-in_ok-filter-in-Filter-clause-value g t c =
    let doc = g.S.Tree.document c.args.source.now in
    let at = context c.args.place in
    ap Nodes (c.in_ok-filter-in-Filter.ensures ∙ ap (λ ps. spec.kept (map (spec.denote doc) ps) (rows_of c.in_ok-value-in-Filter.value)) c.as_slice-in-Filter.ensures
    ∙ ap (λ v. spec.kept (map (spec.denote doc) c.in-Filter.predicates) (rows_of v)) (c.in_ok-value-in-Filter.ensures.value ∙ ap (λ x. spec.denote doc x at) c.get-in-Filter.ensures))
    ∙ sym (eqs.at_filter doc c.in-Filter.filtered c.in-Filter.predicates at) ∙ sym (ap (λ x. spec.denote doc x at) c.in-Filter.is)

pub value_at-returns-in_ok-filter-in-Filter-clause-rows : goal.evaluation::value_at-returns-in_ok-filter-in-Filter-clause-rows
value_at-returns-in_ok-filter-in-Filter-clause-rows g t c =
    let doc = g.S.Tree.document c.args.source.now in
    let at = context c.args.place in
    subst (AreRows doc) (sym c.in_ok-filter-in-Filter.ensures)
    (kept.kept_run (map (spec.denote doc) c.as_slice-in-Filter.result.now) 0 (length doc) (rows_of c.in_ok-value-in-Filter.value) c.in_ok-value-in-Filter.ensures.rows)

pub value_at-returns-in_ok-args-in-Call-clause-value : goal.evaluation::value_at-returns-in_ok-args-in-Call-clause-value
value_at-returns-in_ok-args-in-Call-clause-value g t c =
    let doc = g.S.Tree.document c.args.source.now in
    let at = context c.args.place in
    subst (λ w. IfOk c.called.result (λ v. v ≡ w))
    (ap (λ vs. called doc c.in-Call.func vs at) (c.in_ok-args-in-Call.ensures.values ∙ ap (map (λ x. spec.denote doc x at)) c.as_slice-in-Call.ensures)
    ∙ sym (eqs.at_call doc c.in-Call.func c.in-Call.es at) ∙ sym (ap (λ x. spec.denote doc x at) c.in-Call.is))
    c.called.ensures

pub value_at-returns-in_ok-args-in-Call-clause-rows : goal.evaluation::value_at-returns-in_ok-args-in-Call-clause-rows
value_at-returns-in_ok-args-in-Call-clause-rows g t c =
    let doc = g.S.Tree.document c.args.source.now in
    let at = context c.args.place in
    lists.if_ok_from c.called.result (λ v. v ≡ called doc c.in-Call.func c.in_ok-args-in-Call.args at) (λ v. AreRows doc (rows_of v))
    (λ v is. subst (λ u. AreRows doc (rows_of u)) (sym is) (gathers.called_run doc c.in-Call.func c.in_ok-args-in-Call.args at)) c.called.ensures

pub value_at-returns-in-Some-clause-value : goal.evaluation::value_at-returns-in-Some-clause-value
value_at-returns-in-Some-clause-value g t c =
    let doc = g.S.Tree.document c.args.source.now in
    let at = context c.args.place in
    ap Num c.axis_number.ensures
    ∙ sym (counting.counted doc c.in-Call.es c.in-Some.step.now at (subst (λ v. IsLoneStep v c.in-Some.step.now) c.as_slice-then-is_count.ensures c.in-Some.ensures))
    ∙ sym (ap (λ f. called doc f (map (λ x. spec.denote doc x at) c.in-Call.es) at) (c.is_count.ensures c.if-is_count.true))
    ∙ sym (eqs.at_call doc c.in-Call.func c.in-Call.es at) ∙ sym (ap (λ x. spec.denote doc x at) c.in-Call.is)
