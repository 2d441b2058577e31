use Rattle.std.proofs.Common.{refl, get_or, ◌<◌, ◌+◌, ◌^◌, length}
use Rattle.step_index.proofs.Tallied as tallied
use Rattle.step_index.proofs.alike.all_up.Given.{Over}
use Rattle.step_index.proofs.alike.all_up.Goals as goal

pub parent-requires : goal.parent-requires
parent-requires g c =
    let y = get_or c.args.list.now c.loop-y.y-index 0 in
    tallied.row_within (g.T.Tree.document c.args.tree.now) c.args.list.now c.loop-y.counts.items c.args.before.now.items c.loop-y.before.items c.loop-y.y-index _ y 0 (g.met.T.Tree.is_document c.args.tree.now) c.requires.named c.loop-y-test.true refl refl c.requires.long

ready : (g : Over) (c : goal.After-parent g)
    → (c.parent.result < length c.loop-y.counts.items) × (get_or c.args.list.now c.loop-y.y-index 0 < length c.loop-y.before.items) × (get_or c.loop-y.counts.items c.parent.result 0 + 1 < 2 ^ 32)
ready g c =
    let y = get_or c.args.list.now c.loop-y.y-index 0 in
    tallied.up_ready (g.T.Tree.document c.args.tree.now) c.args.list.now c.loop-y.counts.items c.args.before.now.items c.loop-y.before.items c.loop-y.y-index c.parent.result y 0 (g.met.T.Tree.is_document c.args.tree.now) c.requires.named c.loop-y-test.true refl c.parent.ensures c.requires.long
    (g.met.T.Tree.is_small c.args.tree.now) c.loop-y.invariant.counted c.loop-y.invariant.ranked

pub count_up-requires-clause-row : goal.count_up-requires-clause-row
count_up-requires-clause-row g c = (ready g c).1

pub count_up-requires-clause-small : goal.count_up-requires-clause-small
count_up-requires-clause-small g c = (ready g c).2

pub loop-y-preserved : goal.loop-y-preserved
loop-y-preserved g c =
    let y = get_or c.args.list.now c.loop-y.y-index 0 in
    let inv = c.loop-y.invariant in
    record {
      counted = tallied.up_counts (g.T.Tree.document c.args.tree.now) c.args.list.now c.loop-y.counts.items c.args.before.now.items c.loop-y.before.items c.loop-y.y-index c.parent.result y 0 (g.met.T.Tree.is_document c.args.tree.now) c.requires.named c.loop-y-test.true refl c.parent.ensures c.requires.long c.count_up.new.counts.items c.count_up.ensures.counts inv.counted;
      ranked = tallied.up_gains (g.T.Tree.document c.args.tree.now) c.args.list.now c.loop-y.counts.items c.args.before.now.items c.loop-y.before.items c.loop-y.y-index c.parent.result y 0 (g.met.T.Tree.is_document c.args.tree.now) c.requires.named c.loop-y-test.true refl c.parent.ensures c.requires.long c.count_up.new.before.items c.count_up.ensures.before inv.counted inv.ranked;
    }
