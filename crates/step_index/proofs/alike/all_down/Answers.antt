use Rattle.std.proofs.Common.{refl, get_or, ◌<◌, length}
use Rattle.step_index.proofs.Tallied as tallied
use Rattle.step_index.proofs.alike.all_down.Given.{Over}
use Rattle.step_index.proofs.alike.all_down.Goals as goal

pub parent-requires : goal.parent-requires
parent-requires g c =
    let y = get_or c.args.list.now c.loop-y.y-index 0 in
    tallied.row_within (g.T.Tree.document c.args.tree.now) c.args.list.now c.loop-y.counts.items c.args.after.now.items c.loop-y.after.items c.loop-y.y-index _ y 0 (g.met.T.Tree.is_document c.args.tree.now) c.requires.named c.loop-y-test.true refl refl c.requires.long

ready : (g : Over) (c : goal.After-parent g)
    → (c.parent.result < length c.loop-y.counts.items) × (get_or c.args.list.now c.loop-y.y-index 0 < length c.loop-y.after.items) × (0 < get_or c.loop-y.counts.items c.parent.result 0)
ready g c =
    let y = get_or c.args.list.now c.loop-y.y-index 0 in
    tallied.down_ready (g.T.Tree.document c.args.tree.now) c.args.list.now c.loop-y.counts.items c.args.after.now.items c.loop-y.after.items c.loop-y.y-index c.parent.result y 0 (g.met.T.Tree.is_document c.args.tree.now) c.requires.named c.loop-y-test.true refl c.parent.ensures c.requires.long
    c.loop-y.invariant.counted c.loop-y.invariant.rested

pub count_down-requires-clause-row : goal.count_down-requires-clause-row
count_down-requires-clause-row g c = (ready g c).1

pub count_down-requires-clause-some : goal.count_down-requires-clause-some
count_down-requires-clause-some g c = (ready g c).2

pub loop-y-preserved : goal.loop-y-preserved
loop-y-preserved g c =
    let y = get_or c.args.list.now c.loop-y.y-index 0 in
    let inv = c.loop-y.invariant in
    record {
      counted = tallied.down_counts (g.T.Tree.document c.args.tree.now) c.args.list.now c.loop-y.counts.items c.args.after.now.items c.loop-y.after.items c.loop-y.y-index c.parent.result y 0 (g.met.T.Tree.is_document c.args.tree.now) c.requires.named c.loop-y-test.true refl c.parent.ensures c.requires.long c.count_down.new.counts.items c.count_down.ensures.counts inv.counted;
      rested = tallied.down_gains (g.T.Tree.document c.args.tree.now) c.args.list.now c.loop-y.counts.items c.args.after.now.items c.loop-y.after.items c.loop-y.y-index c.parent.result y 0 (g.met.T.Tree.is_document c.args.tree.now) c.requires.named c.loop-y-test.true refl c.parent.ensures c.requires.long c.count_down.new.after.items c.count_down.ensures.after inv.counted inv.rested;
    }
