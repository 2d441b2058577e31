use Rattle.std.proofs.Common.{arith}
use Rattle.doc_model.proofs.Nearest as nearest
use Rattle.doc_model.proofs.WalkSteps as steps
use Rattle.doc_model.proofs.walks.across_first.Goals as goal

pub loop-y-init : goal.loop-y-init
loop-y-init g c =
    let w = c.walk_of-walk in
    record {
      from = omega arith;
      within = w.ensures.starts;
      found = steps.across_start (g.T.Tree.document c.args.tree.now) c.args.axis c.args.x c.args.test.now w.result.from w.result.to w.result.hops w.ensures;
    }

pub returns-then-is_wanted : goal.returns-then-is_wanted
returns-then-is_wanted g c =
    let w = c.walk_of-walk in
    nearest.first_across (g.T.Tree.document c.args.tree.now) c.args.axis c.args.x c.args.test.now w.result.from w.result.to w.result.hops c.loop-y.y c.is_wanted.result
    w.ensures c.loop-y.invariant.from c.loop-y-test.true c.loop-y.invariant.found c.is_wanted.ensures c.if-is_wanted.true

pub loop-y-preserved : goal.loop-y-preserved
loop-y-preserved g c =
    let w = c.walk_of-walk in
    let i = c.loop-y.invariant in
    record {
      from = omega (arith, i.from, c.next-y.ensures.after);
      within = c.next-y.ensures.within;
      found = nearest.none_found _ _ c.loop-y.y c.is_wanted.result
          (steps.across_more (g.T.Tree.document c.args.tree.now) c.args.axis c.args.x c.args.test.now w.result.from w.result.to w.result.hops c.loop-y.y c.next-y.result c.is_wanted.result
          w.ensures i.from c.loop-y-test.true c.next-y.ensures c.is_wanted.ensures) i.found c.if-is_wanted.false;
    }

pub returns : goal.returns
returns g c =
    let w = c.walk_of-walk in
    nearest.first_of_none _ _ c.loop-y.invariant.found
    (steps.across_all (g.T.Tree.document c.args.tree.now) c.args.axis c.args.x c.args.test.now w.result.from w.result.to w.result.hops c.loop-y.y w.ensures c.loop-y-test.false c.loop-y.invariant.within)
