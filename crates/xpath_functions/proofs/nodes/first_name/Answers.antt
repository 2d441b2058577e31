use Rattle.std.proofs.Common.{◌≡◌, [], sym, ◌∙◌, ap, subst, IfOk}
use Rattle.xpath_parser.specs.Functions.{first_name}
use Rattle.xpath_functions.proofs.Lists.{no_items}
use Rattle.xpath_functions.proofs.nodes.first_name.Goals as goal

pub returns-then-rows-eq0 : goal.returns-then-rows-eq0
returns-then-rows-eq0 g c =
    let none : c.args.rows.now ≡ [] = no_items c.args.rows.now c.if-rows-eq0.true in
    subst (λ v. IfOk c.of.result (λ t. t ≡ v)) (c.nothing.ensures ∙ ap (first_name (g.T.Tree.document c.args.tree.now)) (sym none)) c.of.ensures
