use Rattle.std.proofs.Common.{sym, subst, ℕ, ◌≤◌, List, length}
use Rattle.doc_model.specs.Axes.{axis_list}
use Rattle.xpath_parser.specs.Denote.{rows_in}
use Rattle.doc_model.specs.RowLists.{AllBelow}
use Rattle.xpath_eval.proofs.Gathers as gathers
use Rattle.xpath_eval.proofs.Lists as lists
use Rattle.xpath_eval.proofs.axis_steps.axis_from.Goals as goal

pub returns-clause-below : goal.returns-clause-below
returns-clause-below g c =
    let doc = g.S.Tree.document c.args.source.now in
    let w : ℕ → List ℕ = λ v. axis_list doc v c.args.axis c.args.test.now in
    subst (AllBelow (length doc)) (sym c.in_ok-found.ensures) (lists.run_below 0 (length doc) (rows_in doc c.args.rows.now w) (gathers.rows_in_run doc c.args.rows.now w))

pub returns-clause-few : goal.returns-clause-few
returns-clause-few g c =
    let doc = g.S.Tree.document c.args.source.now in
    let w : ℕ → List ℕ = λ v. axis_list doc v c.args.axis c.args.test.now in
    subst (λ v. length v ≤ length doc) (sym c.in_ok-found.ensures) (lists.run_few (length doc) (rows_in doc c.args.rows.now w) (gathers.rows_in_run doc c.args.rows.now w))
