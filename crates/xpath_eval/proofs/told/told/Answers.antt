use Rattle.std.proofs.Common.{sym, ◌∙◌, ap, List, map}
use Rattle.xpath_values.specs.declared.value.Value.{Value}
use Rattle.xpath_parser.specs.declared.expression.Expr.{Expr}
use Rattle.xpath_parser.specs.declared.expression.Infix.{Infix}
use Rattle.xpath_parser.specs.declared.expression.Operand.{Operand}
use Rattle.xpath_parser.specs.Conversions as conversions
use Rattle.xpath_parser.specs.Denote as spec
use Rattle.xpath_parser.specs.Functions.{called}
use Rattle.xpath_parser.proofs.Equations as eqs
use Rattle.xpath_eval.specs.inner.Places.{context}
use Rattle.xpath_eval.proofs.Counting as counting
use Rattle.xpath_eval.proofs.Lists.{if_some_from}
use Rattle.xpath_eval.proofs.told.told.Goals as goal

pub returns-in-Some : goal.returns-in-Some
returns-in-Some g c =
    let doc = g.S.Tree.document c.args.source.now in
    c.gives_any.ensures ∙ counting.held doc c.args.e.now c.in-Some.step.now (context c.args.place) c.in-Some.ensures

pub returns-in-Joined : goal.returns-in-Joined
returns-in-Joined g c =
    let doc = g.S.Tree.document c.args.source.now in
    let at = context c.args.place in
    let arms : List Operand → List (Infix × Value) = map (λ o. spec.arm_at doc o at) in
    if_some_from c.compared.result _ _ (λ b is. ap conversions.truth_of (sym is
    ∙ ap (λ v. spec.joined doc (spec.denote doc c.get.result.now at) (arms v)) c.as_slice.ensures
    ∙ ap (λ x. spec.joined doc (spec.denote doc x at) (arms c.in-Joined.operands)) c.get.ensures
    ∙ sym (eqs.at_joined doc c.in-Joined.first c.in-Joined.operands at) ∙ sym (ap (λ x. spec.denote doc x at) c.in-Joined.is))) c.compared.ensures

pub returns-in-Call : goal.returns-in-Call
returns-in-Call g c =
    let doc = g.S.Tree.document c.args.source.now in
    let at = context c.args.place in
    let values : List Expr → List Value = map (λ x. spec.denote doc x at) in
    if_some_from c.call_told.result _ _ (λ b is. ap conversions.truth_of (sym is
    ∙ ap (λ v. called doc c.in-Call.func (values v) at) c.as_slice-in-Call.ensures
    ∙ sym (eqs.at_call doc c.in-Call.func c.in-Call.es at) ∙ sym (ap (λ x. spec.denote doc x at) c.in-Call.is))) c.call_told.ensures
