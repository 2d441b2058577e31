use Rattle.std.proofs.Common.{sym, ◌∙◌}
use Rattle.doc_model.specs.declared.Kind.TheVariants.{Root, Attribute, Text, Comment}
use Rattle.markup_out.proofs.ContentRows.{begins_other}
use Rattle.markup_out.proofs.tags.push_before.Goals as goal
use Rattle.markup_out.proofs.tags.push_before.Goals.{in-Root, in-Attribute+in_ok-push_escaped-in-Attribute, in-Text+in_ok-push_text-in-Text, in-Comment+in_ok-push_comment-in-Comment}

pub returns-clause-begins : goal.returns-clause-begins
returns-clause-begins g c =
    let doc = g.T.Tree.document c.args.tree.now in
    let d = g.met.T.Tree.is_document c.args.tree.now in
    elim c.match-kind.branch [
      | in-Root w ↦ begins_other c.args.back doc c.args.x Root d c.requires (sym c.kind.ensures ∙ w.in-Root.is) (λ e. cc)
      | in-Attribute+in_ok-push_escaped-in-Attribute w ↦ begins_other c.args.back doc c.args.x Attribute d c.requires (sym c.kind.ensures ∙ w.in-Attribute.is) (λ e. cc)
      | in-Text+in_ok-push_text-in-Text w ↦ begins_other c.args.back doc c.args.x Text d c.requires (sym c.kind.ensures ∙ w.in-Text.is) (λ e. cc)
      | in-Comment+in_ok-push_comment-in-Comment w ↦ begins_other c.args.back doc c.args.x Comment d c.requires (sym c.kind.ensures ∙ w.in-Comment.is) (λ e. cc)
    ]
