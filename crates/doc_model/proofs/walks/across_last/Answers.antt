use Rattle.std.proofs.Common.{sym, ◌∙◌, ap, ℕ, List, arith}
use Rattle.std.specs.Prelude.{reverse, slice_get}
use Rattle.doc_model.proofs.Nearest as nearest
use Rattle.doc_model.proofs.WalkSteps as steps
use Rattle.doc_model.proofs.walks.across_last.Goals as goal

pub loop-y-init : goal.loop-y-init
loop-y-init g c =
    let w = c.walk_of-walk in
    record {
      from = omega arith;
      within = w.ensures.starts;
      found = sym (ap (λ (v : List ℕ). slice_get (reverse v) 0) (steps.across_start (g.T.Tree.document c.args.tree.now) c.args.axis c.args.x c.args.test.now w.result.from w.result.to w.result.hops w.ensures));
    }

pub loop-y-preserved : goal.loop-y-preserved
loop-y-preserved g c =
    let w = c.walk_of-walk in
    let i = c.loop-y.invariant in
    record {
      from = omega (arith, i.from, c.next-y.ensures.after);
      within = c.next-y.ensures.within;
      found = c.later-last.ensures ∙ nearest.later_row _ _ c.loop-y.y c.is_wanted.result c.loop-y.last
          (steps.across_more (g.T.Tree.document c.args.tree.now) c.args.axis c.args.x c.args.test.now w.result.from w.result.to w.result.hops c.loop-y.y c.next-y.result c.is_wanted.result
          w.ensures i.from c.loop-y-test.true c.next-y.ensures c.is_wanted.ensures) i.found;
    }

pub returns : goal.returns
returns g c =
    let w = c.walk_of-walk in
    c.loop-y.invariant.found
    ∙ ap (λ (v : List ℕ). slice_get (reverse v) 0) (steps.across_all (g.T.Tree.document c.args.tree.now) c.args.axis c.args.x c.args.test.now w.result.from w.result.to w.result.hops c.loop-y.y w.ensures c.loop-y-test.false c.loop-y.invariant.within)
