use Rattle.std.proofs.Common.{sym, ◌∙◌, ap}
use Rattle.doc_model.specs.Document.{row}
use Rattle.doc_model.specs.Attributes.{has_id}
use Rattle.xpath_functions.specs.inner.Sets.{has_text}
use Rattle.xpath_functions.proofs.FirstIds.{among, none_id}
use Rattle.xpath_functions.proofs.ids.is_found.Goals as goal

pub returns-in-Some-clause-found : goal.returns-in-Some-clause-found
returns-in-Some-clause-found g c = λ ws earlier h.
    let doc = g.T.Tree.document c.args.tree.now in
    let text = (row doc c.in-Some.z).text in
    c.take_out.ensures.was ∙ ap (has_text c.args.left.now) c.text.ensures.chars ∙ h text ∙ sym (among (λ w. has_id doc w c.args.y) earlier text ws c.in-Some.ensures.id)

pub returns-in-None-clause-found : goal.returns-in-None-clause-found
returns-in-None-clause-found g c = λ ws earlier h.
    let doc = g.T.Tree.document c.args.tree.now in
    sym (none_id (λ w. has_id doc w c.args.y) earlier ws c.in-None.ensures.id)
