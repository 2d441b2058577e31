use Rattle.std.proofs.Common.{sym, ◌∙◌, ap}
use Rattle.std.specs.Str.{chars, bytes_eq}
use Rattle.doc_model.specs.Document.{row, is_element_kind}
use Rattle.doc_model.proofs.Texts.{same_chars}
use Rattle.std.proofs.Common.{◌&&◌}
use Rattle.step_index.proofs.indexed.is_named.Goals as goal

pub returns-in-Element : goal.returns-in-Element
returns-in-Element g c =
    let doc = g.T.Tree.document c.args.tree.now in
    c.eq.ensures ∙ same_chars c.name.result.now c.args.name.now c.name.utf8 c.utf8.name ∙ ap (λ t. bytes_eq t (chars c.args.name.now)) c.name.ensures.chars
    ∙ sym (ap (λ n. is_element_kind n && bytes_eq (row doc c.args.y).name (chars c.args.name.now)) (sym c.kind.ensures ∙ c.in-Element.is))
