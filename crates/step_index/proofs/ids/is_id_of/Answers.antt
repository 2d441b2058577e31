use Rattle.std.proofs.Common.{◌∙◌, ap, ◌&&◌, sym, codes}
use Rattle.std.proofs.lemmas.Bool.{and_parts}
use Rattle.std.specs.Str.{chars, bytes_eq}
use Rattle.doc_model.specs.Document.{row, is_attribute}
use Rattle.doc_model.proofs.Texts.{same_chars}
use Rattle.step_index.proofs.ids.is_id_of.Goals as goal

pub returns-then-is_id : goal.returns-then-is_id
returns-then-is_id g c =
    let doc = g.T.Tree.document c.args.tree.now in
    let z = c.args.z in
    let w = chars c.args.word.now in
    let two = and_parts (is_attribute doc z) (bytes_eq (row doc z).name (codes "id")) (sym c.is_id.ensures ∙ c.if-is_id.true) in
    c.eq.ensures ∙ same_chars c.text.result.now c.args.word.now c.text.utf8 c.utf8.word ∙ ap (λ t. bytes_eq t w) c.text.ensures.chars
    ∙ sym (ap (λ b. b && (bytes_eq (row doc z).name (codes "id") && bytes_eq (row doc z).text w)) two.0 ∙ ap (λ b. b && bytes_eq (row doc z).text w) two.1)
