use Rattle.std.proofs.Common.{refl, ◌∙◌, ap, cond, [], ◌∷◌, inl, arith}
use Rattle.doc_model.proofs.Below.{small}
use Rattle.doc_model.proofs.Nearest as nearest
use Rattle.doc_model.proofs.WalkSteps as steps
use Rattle.doc_model.proofs.upward.up_first.Goals as goal

pub returns-then-is_own : goal.returns-then-is_own
returns-then-is_own g c =
    let doc = g.T.Tree.document c.args.tree.now in
    nearest.first_of_front c.args.x _ _
    (steps.up_start doc c.args.axis c.args.x c.args.test.now c.is_own.result (g.met.T.Tree.is_document c.args.tree.now) c.requires.up c.requires.row c.is_own.ensures
    ∙ ap (λ b. cond b (c.args.x ∷ []) []) c.if-is_own.true)
    (steps.up_front doc c.args.axis c.args.x c.args.test.now c.args.x _ (omega (arith, c.requires.row)) refl)

pub loop-y-init : goal.loop-y-init
loop-y-init g c = record {
  low = omega arith;
  over = inl refl;
  found = steps.up_start (g.T.Tree.document c.args.tree.now) c.args.axis c.args.x c.args.test.now c.is_own.result (g.met.T.Tree.is_document c.args.tree.now) c.requires.up c.requires.row c.is_own.ensures
      ∙ ap (λ b. cond b (c.args.x ∷ []) []) c.if-is_own.false;
}

pub returns-then-passes : goal.returns-then-passes
returns-then-passes g c =
    let doc = g.T.Tree.document c.args.tree.now in
    let d = g.met.T.Tree.is_document c.args.tree.now in
    let i = c.loop-y.invariant in
    nearest.first_of_front c.parent-y.result _ _
    (nearest.one_found _ _ c.parent-y.result c.passes.result
    (steps.up_more doc c.args.axis c.args.x c.args.test.now c.loop-y.y c.parent-y.result c.passes.result d c.requires.up c.requires.row i.over c.loop-y-test.true c.parent-y.ensures c.passes.ensures)
    i.found c.if-passes.true)
    (steps.up_front doc c.args.axis c.args.x c.args.test.now c.parent-y.result _
    (omega (arith, i.low, c.requires.row, small doc d c.loop-y.y c.loop-y-test.true, c.parent-y.ensures)) refl)

pub loop-y-preserved : goal.loop-y-preserved
loop-y-preserved g c =
    let doc = g.T.Tree.document c.args.tree.now in
    let d = g.met.T.Tree.is_document c.args.tree.now in
    let i = c.loop-y.invariant in
    record {
      low = omega (arith, i.low, small doc d c.loop-y.y c.loop-y-test.true, c.parent-y.ensures);
      over = steps.up_over doc c.args.x c.loop-y.y c.parent-y.result d i.over c.loop-y-test.true c.parent-y.ensures;
      found = nearest.none_found _ _ c.parent-y.result c.passes.result
          (steps.up_more doc c.args.axis c.args.x c.args.test.now c.loop-y.y c.parent-y.result c.passes.result d c.requires.up c.requires.row i.over c.loop-y-test.true c.parent-y.ensures c.passes.ensures)
          i.found c.if-passes.false;
    }
