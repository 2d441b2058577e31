use Rattle.std.proofs.Common.{arith, ◌≡◌, length, ap, ◌∙◌}
use Rattle.serde_json.specs.Data.{array}
use Rattle.serde_json.specs.View.{items_of}
use Rattle.serde_json.proofs.Views.{view-Array}
use Rattle.page_records.proofs.EntryLemmas.{forms_length, form_at, entries_more, entries_all}
use Rattle.page_records.proofs.lines.entries_array.Goals as goal

pub bounds-values-i : goal.bounds-values-i
bounds-values-i c = omega (arith, forms_length c.args.entries.now c.args.values.now c.requires.forms)

pub entry_object-requires-clause-form : goal.entry_object-requires-clause-form
entry_object-requires-clause-form c =
    form_at c.args.entries.now c.args.values.now c.loop-i.i c.index-entries-i.result c.index-values-i.result c.requires.forms c.loop-i-test.true c.index-entries-i.is c.index-values-i.is

pub loop-i-preserved : goal.loop-i-preserved
loop-i-preserved c =
    rw c.in_ok-push.ensures.items (entries_more c.args.entries.now c.args.values.now c.loop-i.items.items c.loop-i.i c.index-entries-i.result c.index-values-i.result _
    c.loop-i.invariant c.loop-i-test.true (forms_length c.args.entries.now c.args.values.now c.requires.forms) c.index-entries-i.is c.index-values-i.is c.in_ok-entry_object.ensures)

pub returns : goal.returns
returns c =
    let done : length c.args.entries.now ≡ c.loop-i.i = omega arith in
    view-Array _ ∙ ap (λ x. array (items_of x)) (c.loop-i.invariant ∙ entries_all c.args.entries.now c.args.values.now c.loop-i.i done (forms_length c.args.entries.now c.args.values.now c.requires.forms))
