use Rattle.std.proofs.Common.{sym, subst, ◌≤◌, length}
use Rattle.doc_model.specs.RowLists.{AllBelow}
use Rattle.xpath_eval.proofs.Kept.{axis_below, axis_few}
use Rattle.xpath_eval.proofs.forms.axis_rows.Goals as goal

pub returns-clause-below : goal.returns-clause-below
returns-clause-below g c =
    let doc = g.S.Tree.document c.args.source.now in
    subst (AllBelow (length doc)) (sym c.in_ok-axis_into.ensures.ok) (axis_below doc c.args.x c.args.axis c.args.test.now)

pub returns-clause-few : goal.returns-clause-few
returns-clause-few g c =
    let doc = g.S.Tree.document c.args.source.now in
    subst (λ v. length v ≤ length doc) (sym c.in_ok-axis_into.ensures.ok) (axis_few doc c.args.x c.args.axis c.args.test.now)
