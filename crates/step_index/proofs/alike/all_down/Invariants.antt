use Rattle.std.specs.Prelude.{take, drop}
use Rattle.step_index.specs.inner.Alike.{Counts, Gains, rest}
use Rattle.step_index.proofs.alike.all_down.Given as goal

abbrev pub invariant-loop-y : goal.invariant-loop-y
invariant-loop-y g l =
    let doc = g.T.Tree.document l.tree in
    record {
      counted : Counts doc (drop l.y-index l.list) l.counts.items;
      rested : Gains (rest doc) (take l.y-index l.list) l.fn.after.items l.after.items;
    }
