use Rattle.std.proofs.Common.{arith}
use Rattle.step_index.proofs.Tallied as tallied
use Rattle.step_index.proofs.alike.Alike.of.Goals as goal

pub returns : goal.returns
returns g c =
    tallied.all_counted (g.T.Tree.document c.args.tree.now) c.args.names.now c.loop-i.alike.before.items c.loop-i.alike.after.items c.loop-i.i (omega (arith, c.loop-i-test.false, c.loop-i.auto.i-end, c.len-i-end.ensures)) c.requires.names c.requires.texts c.loop-i.invariant.counted
