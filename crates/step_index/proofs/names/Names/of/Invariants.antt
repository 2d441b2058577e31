use Rattle.step_index.specs.inner.Tables.{HasNames, HaveTexts}
use Rattle.step_index.proofs.names.Names.of.Given as goal

abbrev pub invariant-loop-y : goal.invariant-loop-y
invariant-loop-y g l =
    let doc = g.T.Tree.document l.tree in
    record {
      rows : HasNames doc l.names l.y;
      texts : HaveTexts doc l.y;
    }
