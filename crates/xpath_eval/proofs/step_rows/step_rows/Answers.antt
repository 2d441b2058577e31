use Rattle.std.proofs.Common.{◌∙◌, ap, sym, subst, length, map}
use Rattle.xpath_parser.specs.Denote as spec
use Rattle.xpath_parser.specs.declared.expression.Step.{out-Step}
use Rattle.xpath_parser.proofs.Equations as eqs
use Rattle.doc_model.specs.RowLists.{AllBelow}
use Rattle.xpath_eval.specs.inner.Steps.{BeginsWithOne}
use Rattle.xpath_eval.proofs.Counting as counting
use Rattle.xpath_eval.proofs.Kept.{axis_below}
use Rattle.xpath_eval.proofs.step_rows.step_rows.Goals as goal

pub returns-then-keeps_first-clause-kept : goal.returns-then-keeps_first-clause-kept
returns-then-keeps_first-clause-kept g c =
    counting.step_first (g.S.Tree.document c.args.source.now) c.args.step.now c.args.x c.in_ok-first.first.items
    (subst BeginsWithOne c.as_slice.ensures (c.keeps_first.ensures c.if-keeps_first.true)) c.in_ok-first.ensures

pub returns-then-keeps_first-clause-below : goal.returns-then-keeps_first-clause-below
returns-then-keeps_first-clause-below g c =
    let doc = g.S.Tree.document c.args.source.now in
    let s = out-Step c.args.step.now in
    subst (AllBelow (length doc)) (sym c.in_ok-first.ensures) (counting.take_below (length doc) _ (axis_below doc c.args.x s.axis s.test))

pub returns-clause-kept : goal.returns-clause-kept
returns-clause-kept g c =
    let doc = g.S.Tree.document c.args.source.now in
    let s = c.args.step.now in
    ap (spec.kept (map (spec.denote doc) (out-Step s).predicates)) c.in_ok-rows.ensures.rows ∙ sym (eqs.at_step doc s c.args.x)
