use Rattle.std.proofs.Common.{◌≡◌, true, sym, ◌∙◌, ap, codes, option_to_list}
use Rattle.doc_model.specs.Document.{is_element, is_element_kind}
use Rattle.xpath_parser.specs.Functions.{attributes_named}
use Rattle.xpath_functions.proofs.FirstIds.{has_value}
use Rattle.xpath_functions.proofs.Lists.{id_chars}
use Rattle.xpath_functions.proofs.ids.id_of.Goals as goal

pub returns-in-Element-clause-id : goal.returns-in-Element-clause-id
returns-in-Element-clause-id g c =
    let doc = g.T.Tree.document c.args.tree.now in
    let element : is_element doc c.args.y ≡ true = ap is_element_kind (sym c.kind.ensures ∙ c.in-Element.is) in
    let named : attributes_named doc (codes "id") c.args.y ≡ option_to_list c.attribute_named.result = ap (λ n. attributes_named doc n c.args.y) (sym id_chars) ∙ c.attribute_named.ensures.named in
    λ q. has_value doc q c.args.y c.attribute_named.result element named
