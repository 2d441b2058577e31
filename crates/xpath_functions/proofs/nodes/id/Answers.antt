use Rattle.std.proofs.Common.{◌≡◌, [], sym, ◌∙◌, ap}
use Rattle.doc_model.specs.Document.{rows}
use Rattle.xpath_values.specs.declared.value.Value.TheVariants.{Nodes}
use Rattle.xpath_parser.specs.Functions.{arg, ids}
use Rattle.xpath_functions.proofs.Lists.{no_items, filter_none}
use Rattle.xpath_functions.proofs.nodes.id.Goals as goal

pub returns-then-args-eq0 : goal.returns-then-args-eq0
returns-then-args-eq0 g c =
    let doc = g.T.Tree.document c.args.tree.now in
    let none : c.args.args.now ≡ [] = sym c.as_slice-args.ensures ∙ no_items c.as_slice-args.result.now c.if-args-eq0.true in
    c.new.ensures ∙ sym (ap (λ vs. ids doc (arg 0 vs (Nodes []))) none ∙ filter_none (rows doc))
