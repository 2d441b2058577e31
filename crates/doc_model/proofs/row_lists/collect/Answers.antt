use Rattle.std.proofs.Common.{◌∙◌}
use Rattle.doc_model.proofs.Runs as runs
use Rattle.doc_model.proofs.row_lists.collect.Goals as goal

pub loop-list-init : goal.loop-list-init
loop-list-init c = λ n each. c.new-found.ensures.items ∙ runs.nothing_collected n

pub loop-list-preserved : goal.loop-list-preserved
loop-list-preserved c = λ n each.
    runs.collected n c.args.lists.now c.loop-list.found.items c.in_ok-found.found.items c.list-item.result c.as_slice.result.now c.loop-list.list-index each c.loop-list-test.true
    (c.loop-list.invariant n each) c.list-item.is c.as_slice.ensures (c.in_ok-found.ensures n)
