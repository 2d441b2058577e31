use Rattle.std.proofs.Common.{[], cond, sym, ap, ◌∙◌}
use Rattle.doc_model.specs.Document.{row}
use Rattle.markup_out.specs.Markup.{start_tag, newline}
use Rattle.markup_out.proofs.AddingLemmas.{both, same}
use Rattle.markup_out.specs.Names.{is_void}
use Rattle.markup_out.proofs.ContentRows.{begins_void, begins_element}
use Rattle.markup_out.proofs.tags.push_element.Goals as goal

pub returns-then-is_void-clause-begins : goal.returns-then-is_void-clause-begins
returns-then-is_void-clause-begins g c =
    begins_void _ _ _ _ (g.met.T.Tree.is_document c.args.tree.now) c.requires.element (ap is_void (sym c.name.ensures.chars) ∙ sym c.is_void.ensures ∙ c.if-is_void.true) c.end.ensures

pub returns-clause-begins : goal.returns-clause-begins
returns-clause-begins g c =
    begins_element _ _ _ _ (g.met.T.Tree.is_document c.args.tree.now) c.requires.element (ap is_void (sym c.name.ensures.chars) ∙ sym c.is_void.ensures ∙ c.if-is_void.false) c.in_ok-content.ensures.end

pub returns-clause-adds : goal.returns-clause-adds
returns-clause-adds g c =
    let doc = g.T.Tree.document c.args.tree.now in
    let x = c.args.x in
    let open_end = ap is_void (sym c.name.ensures.chars) ∙ sym c.is_void.ensures ∙ c.if-is_void.false in
    both _ _ _ (start_tag c.args.back doc x) (cond (is_void (row doc x).name) [] (newline c.args.back doc x)) c.in_ok-content.ensures.adds
    (same _ _ _ _ (ap (λ b. cond b [] (newline c.args.back doc x)) (sym open_end)) c.in_ok-push_newline.ensures)
