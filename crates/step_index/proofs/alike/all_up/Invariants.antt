use Rattle.std.specs.Prelude.{take}
use Rattle.step_index.specs.inner.Alike.{Counts, Gains, rank}
use Rattle.step_index.proofs.alike.all_up.Given as goal

abbrev pub invariant-loop-y : goal.invariant-loop-y
invariant-loop-y g l =
    let doc = g.T.Tree.document l.tree in
    record {
      counted : Counts doc (take l.y-index l.list) l.counts.items;
      ranked : Gains (rank doc) (take l.y-index l.list) l.fn.before.items l.before.items;
    }
