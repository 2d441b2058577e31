use Rattle.std.proofs.Common.{length, ℕ, List, ap, sym, ◌∙◌, arith}
use Rattle.doc_model.proofs.WalkSteps as steps
use Rattle.doc_model.proofs.walks.across_count.Goals as goal

pub loop-y-init : goal.loop-y-init
loop-y-init g c =
    let w = c.walk_of-walk in
    record {
      from = omega arith;
      within = w.ensures.starts;
      small = omega arith;
      found = sym (ap (λ (v : List ℕ). length v) (steps.across_start (g.T.Tree.document c.args.tree.now) c.args.axis c.args.x c.args.test.now w.result.from w.result.to w.result.hops w.ensures));
    }

pub loop-y-preserved : goal.loop-y-preserved
loop-y-preserved g c =
    let w = c.walk_of-walk in
    let i = c.loop-y.invariant in
    record {
      from = omega (arith, i.from, c.next-y.ensures.after);
      within = c.next-y.ensures.within;
      small = omega (arith, i.small, c.next-y.ensures.after, steps.some_of c.is_wanted.result c.one_if-count.result c.one_if-count.ensures);
      found = steps.counted _ _ c.is_wanted.result c.loop-y.y c.loop-y.count c.one_if-count.result
          (steps.across_more (g.T.Tree.document c.args.tree.now) c.args.axis c.args.x c.args.test.now w.result.from w.result.to w.result.hops c.loop-y.y c.next-y.result c.is_wanted.result
          w.ensures i.from c.loop-y-test.true c.next-y.ensures c.is_wanted.ensures) i.found c.one_if-count.ensures;
    }

pub returns : goal.returns
returns g c =
    let w = c.walk_of-walk in
    c.loop-y.invariant.found
    ∙ ap (λ (v : List ℕ). length v) (steps.across_all (g.T.Tree.document c.args.tree.now) c.args.axis c.args.x c.args.test.now w.result.from w.result.to w.result.hops c.loop-y.y w.ensures c.loop-y-test.false c.loop-y.invariant.within)
