use Rattle.std.proofs.Common.{sym, ◌∙◌, ap, List, map}
use Rattle.xpath_values.specs.declared.value.Value.{Value}
use Rattle.xpath_values.specs.declared.value.Value.TheVariants.{Num}
use Rattle.xpath_parser.specs.declared.expression.Expr.{Expr}
use Rattle.xpath_parser.specs.declared.expression.Infix.{Infix}
use Rattle.xpath_parser.specs.declared.expression.Operand.{Operand}
use Rattle.xpath_parser.specs.Denote as spec
use Rattle.xpath_parser.specs.Functions.{called}
use Rattle.xpath_parser.proofs.Equations as eqs
use Rattle.xpath_eval.specs.inner.Places.{context}
use Rattle.xpath_eval.proofs.Lists.{if_some_from}
use Rattle.xpath_eval.proofs.plain_numbers.+plain_numbers.Goals as goal

pub number_at-returns-in-Number : goal.number_at-returns-in-Number
number_at-returns-in-Number g t c =
    let doc = g.S.Tree.document c.args.source.now in
    let at = context c.args.place in
    ap (λ x. spec.denote doc x at) c.in-Number.is ∙ eqs.at_number doc c.in-Number.n at ∙ ap Num (sym c.literal_number.ensures)

pub number_at-returns-in-Call : goal.number_at-returns-in-Call
number_at-returns-in-Call g t c =
    let doc = g.S.Tree.document c.args.source.now in
    let at = context c.args.place in
    let values : List Expr → List Value = map (λ x. spec.denote doc x at) in
    if_some_from c.counted.result _ _ (λ n is. ap (λ x. spec.denote doc x at) c.in-Call.is ∙ eqs.at_call doc c.in-Call.func c.in-Call.es at
    ∙ ap (λ v. called doc c.in-Call.func (values v) at) (sym c.as_slice.ensures) ∙ is) c.counted.ensures

pub number_at-returns-in-Some : goal.number_at-returns-in-Some
number_at-returns-in-Some g t c =
    let doc = g.S.Tree.document c.args.source.now in
    let at = context c.args.place in
    let arms : List Operand → List (Infix × Value) = map (λ o. spec.arm_at doc o at) in
    if_some_from c.number_joined.result _ _ (λ n is. ap (λ x. spec.denote doc x at) c.in-Joined.is ∙ eqs.at_joined doc c.in-Joined.first c.in-Joined.operands at
    ∙ ap (λ v. spec.joined doc v (arms c.in-Joined.operands)) (ap (λ x. spec.denote doc x at) (sym c.get.ensures) ∙ c.in-Some.ensures)
    ∙ ap (λ v. spec.joined doc (Num c.in-Some.value) (arms v)) (sym c.as_slice-in-Some.ensures) ∙ is) c.number_joined.ensures
