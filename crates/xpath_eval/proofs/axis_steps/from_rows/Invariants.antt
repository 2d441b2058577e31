use Rattle.std.proofs.Common.{length, take}
use Rattle.doc_model.specs.Axes.{axis_list}
use Rattle.xpath_eval.proofs.Gathers.{Gathered}
use Rattle.xpath_eval.proofs.axis_steps.from_rows.Given as goal

abbrev pub invariant-loop-x : goal.invariant-loop-x
invariant-loop-x g l =
    let doc = g.S.Tree.document l.source in Gathered (length doc) (take l.x-index l.rows) (λ v. axis_list doc v l.axis l.test) l.found.items
