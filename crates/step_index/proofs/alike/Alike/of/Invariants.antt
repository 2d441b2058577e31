use Rattle.std.specs.Prelude.{[]}
use Rattle.step_index.specs.inner.Alike.{Counts, HasCounted}
use Rattle.step_index.proofs.alike.Alike.of.Given as goal

abbrev pub invariant-loop-i : goal.invariant-loop-i
invariant-loop-i g l =
    let doc = g.T.Tree.document l.tree in
    record {
      none : Counts doc [] l.counts.items;
      counted : HasCounted doc l.names l.alike.before.items l.alike.after.items l.i;
    }
