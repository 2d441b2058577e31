use Rattle.std.proofs.Common.{not, ◌∙◌, ap}
use Rattle.xpath_values.specs.Compares.{num_fits}
use Rattle.xpath_functions.specs.inner.Extremes.{extreme_of, goes_up}
use Rattle.xpath_functions.proofs.Orders.{orders}
use Rattle.xpath_functions.proofs.comparisons.in_order.Goals as goal

pub returns : goal.returns
returns g c =
    let doc = g.T.Tree.document c.args.tree.now in
    let op = c.args.op in
    c.num_fits.ensures
    ∙ ap (λ n. num_fits op n c.in_ok-right.right) (c.in_ok-left.ensures ∙ ap (λ b. extreme_of doc b c.args.xs.now) c.goes_up-up.ensures)
    ∙ ap (num_fits op (extreme_of doc (goes_up op) c.args.xs.now)) (c.in_ok-right.ensures ∙ ap (λ b. extreme_of doc (not b) c.args.ys.now) c.goes_up-up.ensures)
    ∙ orders doc op c.requires.order c.args.xs.now c.args.ys.now
