use Rattle.std.proofs.Common.{sym, ◌∙◌, ap}
use Rattle.std.specs.Str.{bytes_eq}
use Rattle.page_records.proofs.BodyLemmas.{same_name, has_here, has_none_more}
use Rattle.page_records.proofs.bodies.has_name.Goals as goal

pub returns-then-is : goal.returns-then-is
returns-then-is c =
    sym (has_here c.args.name.now c.args.fields.now c.loop-field.field-index c.field-item.result c.loop-field-test.true
    (ap (λ f. bytes_eq c.args.name.now f.name) (sym c.field-item.is) ∙ (same_name c.is.result c.args.name.now c.as_str.result.now c.field-item.result.name c.is.ensures c.as_str.ensures.chars ∙ c.if-is.true)))

pub loop-field-preserved : goal.loop-field-preserved
loop-field-preserved c =
    has_none_more c.args.name.now c.args.fields.now c.loop-field.field-index c.field-item.result c.loop-field-test.true c.loop-field.invariant
    (ap (λ f. bytes_eq c.args.name.now f.name) (sym c.field-item.is) ∙ (same_name c.is.result c.args.name.now c.as_str.result.now c.field-item.result.name c.is.ensures c.as_str.ensures.chars ∙ c.if-is.false))
