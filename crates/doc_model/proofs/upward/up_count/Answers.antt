use Rattle.std.proofs.Common.{refl, inl, arith}
use Rattle.doc_model.proofs.Below.{small}
use Rattle.doc_model.proofs.WalkSteps as steps
use Rattle.doc_model.proofs.upward.up_count.Goals as goal

pub loop-y-init : goal.loop-y-init
loop-y-init g c = record {
  low = omega arith;
  over = inl refl;
  small = omega (arith, steps.some_of c.is_own.result c.one_if-count.result c.one_if-count.ensures);
  found = steps.counted_start _ c.is_own.result c.args.x c.one_if-count.result
      (steps.up_start (g.T.Tree.document c.args.tree.now) c.args.axis c.args.x c.args.test.now c.is_own.result (g.met.T.Tree.is_document c.args.tree.now) c.requires.up c.requires.row c.is_own.ensures) c.one_if-count.ensures;
}

pub loop-y-preserved : goal.loop-y-preserved
loop-y-preserved g c =
    let doc = g.T.Tree.document c.args.tree.now in
    let d = g.met.T.Tree.is_document c.args.tree.now in
    let i = c.loop-y.invariant in
    let one = c.one_if-count-in-loop-y in
    record {
      low = omega (arith, i.low, small doc d c.loop-y.y c.loop-y-test.true, c.parent-y.ensures);
      over = steps.up_over doc c.args.x c.loop-y.y c.parent-y.result d i.over c.loop-y-test.true c.parent-y.ensures;
      small = omega (arith, i.small, small doc d c.loop-y.y c.loop-y-test.true, c.parent-y.ensures, steps.some_of c.passes.result one.result one.ensures);
      found = steps.counted_back _ _ c.passes.result c.parent-y.result c.loop-y.count one.result
          (steps.up_more doc c.args.axis c.args.x c.args.test.now c.loop-y.y c.parent-y.result c.passes.result d c.requires.up c.requires.row i.over c.loop-y-test.true c.parent-y.ensures c.passes.ensures) i.found one.ensures;
    }
