use Rattle.std.proofs.Common.{arith, ◌≡◌, length, ap, ◌∙◌}
use Rattle.serde_json.specs.Data.{array}
use Rattle.serde_json.specs.View.{items_of}
use Rattle.serde_json.proofs.Views.{view-Array}
use Rattle.json_lines.proofs.Zips.{fields_more, fields_all}
use Rattle.json_lines.proofs.pages.fields_value.Goals as goal

pub loop-i-preserved : goal.loop-i-preserved
loop-i-preserved c =
    rw c.in_ok-push.ensures.items (fields_more c.args.fields.now c.args.values.now c.loop-i.items.items c.loop-i.i c.index-fields-i.result c.index-values-i.result _ _
    c.loop-i.invariant c.loop-i-test.true c.requires c.index-fields-i.is c.index-values-i.is c.as_str.ensures.bytes c.in_ok-field_object.ensures)

pub returns : goal.returns
returns c =
    let done : length c.args.fields.now ≡ c.loop-i.i = omega arith in
    view-Array _ ∙ ap (λ x. array (items_of x)) (c.loop-i.invariant ∙ fields_all c.args.fields.now c.args.values.now c.loop-i.i done c.requires)
