use Rattle.std.proofs.Common.{◌++◌, ◌∷◌, [], cond, ap, sym, ◌∙◌, arith}
use Rattle.doc_model.proofs.Runs.{on_err}
use Rattle.doc_model.proofs.WalkSteps as steps
use Rattle.doc_model.proofs.walks.across_into.Goals as goal

pub loop-y-init : goal.loop-y-init
loop-y-init g c =
    let w = c.walk_of-walk in
    record {
      from = omega arith;
      within = w.ensures.starts;
      found = c.requires.empty ∙ sym (steps.across_start (g.T.Tree.document c.args.tree.now) c.args.axis c.args.x c.args.test.now w.result.from w.result.to w.result.hops w.ensures);
    }

pub loop-y-preserved : goal.loop-y-preserved
loop-y-preserved g c =
    let w = c.walk_of-walk in
    let i = c.loop-y.invariant in
    record {
      from = omega (arith, i.from, c.next-y.ensures.after);
      within = c.next-y.ensures.within;
      found = c.in_ok-push_if.ensures.ok ∙ ap (λ v. v ++ cond c.is_wanted-wanted.result (c.loop-y.y ∷ []) []) i.found
          ∙ sym (steps.across_more (g.T.Tree.document c.args.tree.now) c.args.axis c.args.x c.args.test.now w.result.from w.result.to w.result.hops c.loop-y.y c.next-y.result c.is_wanted-wanted.result
          w.ensures i.from c.loop-y-test.true c.next-y.ensures c.is_wanted-wanted.ensures);
    }

pub returns-in_err-push_if-clause-err : goal.returns-in_err-push_if-clause-err
returns-in_err-push_if-clause-err g c =
    on_err c.from_residual.result (steps.across_front (g.T.Tree.document c.args.tree.now) c.args.axis c.args.x c.args.test.now c.loop-y.y c.push_if.new.out.items c.loop-y.invariant.within (c.in_err-push_if.ensures.err ∙ c.loop-y.invariant.found))

pub returns-clause-ok : goal.returns-clause-ok
returns-clause-ok g c =
    let w = c.walk_of-walk in
    c.loop-y.invariant.found
    ∙ steps.across_all (g.T.Tree.document c.args.tree.now) c.args.axis c.args.x c.args.test.now w.result.from w.result.to w.result.hops c.loop-y.y w.ensures c.loop-y-test.false c.loop-y.invariant.within
