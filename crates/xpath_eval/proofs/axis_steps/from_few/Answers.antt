use Rattle.std.proofs.Common.{◌≡◌, ap, ◌∙◌, subst, ℕ, List}
use Rattle.std.specs.Prelude.{IfOk}
use Rattle.doc_model.specs.Axes.{axis_list}
use Rattle.xpath_parser.specs.Denote.{rows_in}
use Rattle.xpath_eval.proofs.Covering.{covered_rows}
use Rattle.xpath_eval.proofs.axis_steps.from_few.Goals as goal

pub returns : goal.returns
returns g c =
    let doc = g.S.Tree.document c.args.source.now in
    let w : ℕ → List ℕ = λ v. axis_list doc v c.args.axis c.args.test.now in
    subst (λ v. IfOk c.from_rows-2.result (λ found. found.items ≡ v))
    (ap (λ v. rows_in doc v w) c.as_slice.ensures.value ∙ covered_rows doc c.args.axis c.args.test.now c.args.rows.now c.in_ok-few.few.items c.in_ok-few.ensures.covers)
    c.from_rows-2.ensures
