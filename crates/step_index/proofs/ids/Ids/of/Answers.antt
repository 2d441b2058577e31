use Rattle.std.proofs.Common.{sym, ◌∙◌, ap, cond, Some, None}
use Rattle.std.specs.Option.{option_or}
use Rattle.std.specs.Str.{chars}
use Rattle.doc_model.specs.Document.{row}
use Rattle.step_index.specs.inner.Tables.{gives_id}
use Rattle.step_index.proofs.Filled as filled
use Rattle.step_index.proofs.ids.Ids.of.Goals as goal

pub loop-z-preserved : goal.loop-z-preserved
loop-z-preserved g c = λ q u.
    let doc = g.T.Tree.document c.args.tree.now in
    c.in_ok-put_row.ensures q u ∙ ap (λ v. option_or v (cond (gives_id doc (chars q) c.loop-z.z) (Some (row doc c.loop-z.z).parent) None)) (c.loop-z.invariant q u)
    ∙ sym (filled.find_more (gives_id doc (chars q)) (λ z. (row doc z).parent) c.loop-z.z)
