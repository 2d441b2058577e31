use Rattle.std.proofs.Common.{◌∷◌, [], refl, sym}
use Rattle.doc_model.specs.Document.{row}
use Rattle.markup_out.proofs.AddingLemmas.{adds, adds_ascii, ascii_last, both_last}
use Rattle.markup_out.proofs.tags.push_end_tag.Goals as goal

pub returns : goal.returns
returns g c =
    let x = row (g.T.Tree.document c.args.tree.now) c.args.x in
    both_last _ _ _ _ (60 ∷ 47 ∷ []) _ (adds_ascii _ _ (60 ∷ 47 ∷ []) refl c.in_ok-push.ensures)
    (both_last _ _ _ _ x.name _ (adds _ _ _ x.name (sym c.name.ensures.bytes) c.in_ok-push-2.ensures)
    (ascii_last _ _ _ (62 ∷ []) refl c.push-3.ensures))
