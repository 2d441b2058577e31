use Rattle.step_index.proofs.Tallied as tallied
use Rattle.step_index.proofs.indexed.Indexed.alike_after.Goals as goal

pub returns : goal.returns
returns g c =
    tallied.all_alike (g.T.Tree.document c.args.self.now.tree) c.args.self.now.alike.before.items c.args.self.now.alike.after.items c.args.x c.after.result (g.met.T.Tree.is_document c.args.self.now.tree) c.requires.row c.requires.element c.args.self.now.grouped c.after.ensures
