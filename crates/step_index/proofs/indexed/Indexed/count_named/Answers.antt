use Rattle.std.proofs.Common.{sym, ◌∙◌}
use Rattle.std.proofs.lemmas.Bool.{and_parts}
use Rattle.std.specs.Str.{chars, bytes_eq}
use Rattle.doc_model.specs.Document.{row, is_element}
use Rattle.step_index.proofs.Siblings as siblings
use Rattle.step_index.proofs.indexed.Indexed.count_named.Goals as goal

pub returns-in-PrecedingSibling : goal.returns-in-PrecedingSibling
returns-in-PrecedingSibling g c =
    let doc = g.T.Tree.document c.args.self.now.tree in
    let own = sym c.is_named.ensures ∙ c.if-is_named.true in
    c.before-in-PrecedingSibling.ensures ∙ c.args.self.now.grouped.ranks c.args.x c.requires.row (and_parts (is_element doc c.args.x) (bytes_eq (row doc c.args.x).name (chars c.args.name.now)) own).0
    ∙ sym (siblings.named_preceding doc c.args.x c.args.axis c.args.test.now (chars c.args.name.now) (g.met.T.Tree.is_document c.args.self.now.tree) c.requires.row own c.in-PrecedingSibling.is c.requires.named)

pub returns-in-FollowingSibling : goal.returns-in-FollowingSibling
returns-in-FollowingSibling g c =
    let doc = g.T.Tree.document c.args.self.now.tree in
    let own = sym c.is_named.ensures ∙ c.if-is_named.true in
    siblings.named_following doc c.args.x c.args.axis c.args.test.now (chars c.args.name.now) c.alike_after.result (g.met.T.Tree.is_document c.args.self.now.tree) c.requires.row own c.in-FollowingSibling.is c.requires.named c.alike_after.ensures
