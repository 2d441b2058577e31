use Rattle.std.proofs.Common.{sym, ◌∙◌, ap, map}
use Rattle.xpath_values.specs.declared.value.Value.TheVariants.{Num}
use Rattle.xpath_parser.specs.Functions.{called}
use Rattle.xpath_parser.specs.Denote.{denote}
use Rattle.xpath_eval.specs.inner.Places.{context}
use Rattle.xpath_eval.proofs.Counting as counting
use Rattle.xpath_eval.proofs.plain_numbers.counted.Goals as goal

pub returns-in-Some : goal.returns-in-Some
returns-in-Some g c =
    let doc = g.S.Tree.document c.args.source.now in
    let at = context c.args.place in
    ap (λ f. called doc f (map (λ x. denote doc x at) c.args.es.now) at) (c.is_count.ensures c.if-not-is_count.false)
    ∙ counting.counted doc c.args.es.now c.in-Some.step.now at c.in-Some.ensures ∙ ap Num (sym c.axis_number.ensures)
