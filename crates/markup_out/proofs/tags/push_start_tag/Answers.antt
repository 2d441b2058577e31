use Rattle.std.proofs.Common.{◌∷◌, [], refl, sym}
use Rattle.std.specs.Prelude.{flat_map}
use Rattle.doc_model.specs.Document.{row}
use Rattle.markup_out.specs.Markup.{attribute_markup, attributes}
use Rattle.markup_out.proofs.AddingLemmas.{adds, adds_ascii, both}
use Rattle.markup_out.proofs.tags.push_start_tag.Goals as goal

pub returns-clause-adds : goal.returns-clause-adds
returns-clause-adds g c =
    let doc = g.T.Tree.document c.args.tree.now in
    let x = row doc c.args.x in
    both _ _ _ (60 ∷ []) _ (adds_ascii _ _ (60 ∷ []) refl c.in_ok-push.ensures)
    (both _ _ _ x.name _ (adds _ _ _ x.name (sym c.name.ensures.bytes) c.in_ok-push-2.ensures)
    (both _ _ _ (flat_map (attribute_markup c.args.back doc) (attributes doc c.args.x)) (62 ∷ []) c.in_ok-end.ensures.adds (adds_ascii _ _ (62 ∷ []) refl c.in_ok-push-3.ensures)))
