use Rattle.std.proofs.Common.{◌∙◌}
use Rattle.std.specs.Str.{chars}
use Rattle.step_index.proofs.Firsts.{first_of}
use Rattle.step_index.proofs.indexed.Indexed.first_id.Goals as goal

pub returns-in-Some : goal.returns-in-Some
returns-in-Some g c =
    let doc = g.T.Tree.document c.args.self.now.tree in
    c.under.ensures ∙ c.args.self.now.identified c.in-Some.ids c.in-Some.is c.args.word.now c.utf8.word ∙ first_of doc (chars c.args.word.now) (g.met.T.Tree.is_document c.args.self.now.tree)

pub returns-in-None : goal.returns-in-None
returns-in-None g c =
    let doc = g.T.Tree.document c.args.self.now.tree in
    c.walk_id.ensures ∙ first_of doc (chars c.args.word.now) (g.met.T.Tree.is_document c.args.self.now.tree)
