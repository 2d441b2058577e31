use Rattle.std.proofs.Common.{arith, ◌≡◌, length, ap, sym, ◌∙◌}
use Rattle.serde_json.specs.Data.{object}
use Rattle.serde_json.specs.View.{members_view}
use Rattle.serde_json.proofs.Views.{view-Object}
use Rattle.page_records.specs.Lines.{members_data}
use Rattle.page_records.proofs.Members.{none_in_order, members_more, members_all}
use Rattle.page_records.proofs.lines.record_object.Goals as goal

pub loop-i-init : goal.loop-i-init
loop-i-init c = ap members_view c.new-members.ensures.empty ∙ sym (ap members_data none_in_order)

pub loop-i-preserved : goal.loop-i-preserved
loop-i-preserved c =
    members_more c.args.fields.now c.args.values.now c.loop-i.members.entries c.insert.new.self.entries c.loop-i.i c.index-fields-i.result c.index-values-i.result c.in_ok-name.name c.in_ok-value.value
    c.loop-i.invariant c.loop-i-test.true c.requires.count c.requires.differ c.index-fields-i.is c.index-values-i.is (c.in_ok-name.ensures.ok ∙ c.as_str.ensures.bytes) c.in_ok-value.ensures c.in_ok-insert.ensures.entries

pub returns : goal.returns
returns c =
    let done : length c.args.fields.now ≡ c.loop-i.i = omega arith in
    view-Object _ ∙ ap object (c.loop-i.invariant ∙ members_all c.args.fields.now c.args.values.now c.loop-i.i done c.requires.count)
