use Rattle.std.proofs.Common.{◌∷◌, [], refl, sym, ap}
use Rattle.doc_model.specs.Document.{row}
use Rattle.markup_out.specs.Escapes.{escaped_value}
use Rattle.markup_out.proofs.AddingLemmas.{adds, adds_ascii, ascii_last, both_last, same}
use Rattle.markup_out.proofs.tags.push_attribute.Goals as goal

pub returns : goal.returns
returns g c =
    let r = row (g.T.Tree.document c.args.tree.now) c.args.r in
    both_last _ _ _ _ (32 ∷ []) _ (adds_ascii _ _ (32 ∷ []) refl c.in_ok-push.ensures)
    (both_last _ _ _ _ r.name _ (adds _ _ _ r.name (sym c.name.ensures.bytes) c.in_ok-push-2.ensures)
    (both_last _ _ _ _ (61 ∷ 34 ∷ []) _ (adds_ascii _ _ (61 ∷ 34 ∷ []) refl c.in_ok-push-3.ensures)
    (both_last _ _ _ _ (escaped_value c.args.back r.text) _ (same _ _ _ _ (ap (escaped_value c.args.back) c.text.ensures.chars) c.in_ok-push_escaped.ensures)
    (ascii_last _ _ _ (34 ∷ []) refl c.push-4.ensures))))
