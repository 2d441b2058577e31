use Rattle.std.proofs.Common.{◌∙◌, ap}
use Rattle.std.specs.Prelude.{reverse}
use Rattle.xpath_eval.specs.inner.Contexts.{Covers}
use Rattle.xpath_eval.proofs.Covering as covering
use Rattle.xpath_eval.proofs.Lists.{if_ok_from}
use Rattle.xpath_eval.proofs.contexts.covering.Goals as goal

pub returns-then-matches-clause-covers : goal.returns-then-matches-clause-covers
returns-then-matches-clause-covers g c =
    let doc = g.T.Tree.document c.args.tree.now in
    if_ok_from c.fewer.result (λ few. Covers doc c.args.axis c.as_slice.result.now few.items) (λ few. Covers doc c.args.axis c.args.rows.now few.items)
    (λ few covers. covering.covers_turned doc c.args.axis c.args.rows.now c.as_slice.result.now few.items
    (c.as_slice.ensures.value ∙ c.reverse.ensures.items ∙ ap reverse c.in_ok-turned.ensures.items) covers) c.fewer.ensures.covers
