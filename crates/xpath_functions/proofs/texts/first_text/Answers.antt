use Rattle.std.proofs.Common.{◌≡◌, [], sym, ◌∙◌, ap}
use Rattle.xpath_parser.specs.Conversions.{text_of_rows}
use Rattle.xpath_functions.proofs.Lists.{no_items}
use Rattle.xpath_functions.proofs.texts.first_text.Goals as goal

pub returns-then-rows-eq0 : goal.returns-then-rows-eq0
returns-then-rows-eq0 g c =
    let none : c.args.rows.now ≡ [] = no_items c.args.rows.now c.if-rows-eq0.true in
    c.nothing.ensures ∙ ap (text_of_rows (g.T.Tree.document c.args.tree.now)) (sym none)
