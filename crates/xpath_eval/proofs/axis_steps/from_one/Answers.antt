use Rattle.std.proofs.Common.{ap, ℕ, List, [], ◌∷◌, length}
use Rattle.doc_model.specs.Axes.{axis_list}
use Rattle.doc_model.specs.RowLists.{has}
use Rattle.xpath_eval.proofs.Gathers as gathers
use Rattle.xpath_eval.proofs.Kept as kept
use Rattle.xpath_eval.proofs.axis_steps.from_one.Goals as goal

pub returns : goal.returns
returns g c =
    let doc = g.S.Tree.document c.args.source.now in
    let w : ℕ → List ℕ = λ v. axis_list doc v c.args.axis c.args.test.now in
    let listed = c.in_ok-listed.listed.items in
    gathers.gathered_all doc (c.args.x ∷ []) w listed c.ordered.result.items
    (gathers.gathered_more (length doc) [] c.args.x w [] listed (gathers.gathered_none (length doc) w) (kept.axis_below doc c.args.x c.args.axis c.args.test.now)
    (λ y. ap (has y) c.in_ok-listed.ensures.rows))
    c.ordered.ensures.same (c.ordered.ensures.order (length doc) c.in_ok-listed.ensures.below)
