use Rattle.std.proofs.Common.{◌++◌, ◌∷◌, [], cond, refl, ap, sym, ◌∙◌, inl, arith}
use Rattle.doc_model.proofs.Below.{small}
use Rattle.doc_model.proofs.Runs.{on_err}
use Rattle.doc_model.proofs.WalkSteps as steps
use Rattle.doc_model.proofs.upward.up_into.Goals as goal

pub loop-y-init : goal.loop-y-init
loop-y-init g c = record {
  low = omega arith;
  over = inl refl;
  found = c.in_ok-push_if.ensures.ok ∙ ap (λ v. v ++ cond c.is_own-own.result (c.args.x ∷ []) []) c.requires.empty
      ∙ sym (steps.up_start (g.T.Tree.document c.args.tree.now) c.args.axis c.args.x c.args.test.now c.is_own-own.result (g.met.T.Tree.is_document c.args.tree.now) c.requires.up c.requires.row c.is_own-own.ensures);
}

pub loop-y-preserved : goal.loop-y-preserved
loop-y-preserved g c =
    let doc = g.T.Tree.document c.args.tree.now in
    let d = g.met.T.Tree.is_document c.args.tree.now in
    let i = c.loop-y.invariant in
    record {
      low = omega (arith, i.low, small doc d c.loop-y.y c.loop-y-test.true, c.parent-y.ensures);
      over = steps.up_over doc c.args.x c.loop-y.y c.parent-y.result d i.over c.loop-y-test.true c.parent-y.ensures;
      found = c.in_ok-push_if-2.ensures.ok ∙ ap (λ v. v ++ cond c.passes-wanted.result (c.parent-y.result ∷ []) []) i.found
          ∙ sym (steps.up_more doc c.args.axis c.args.x c.args.test.now c.loop-y.y c.parent-y.result c.passes-wanted.result d c.requires.up c.requires.row i.over c.loop-y-test.true c.parent-y.ensures c.passes-wanted.ensures);
    }

pub returns-in_err-push_if-clause-err : goal.returns-in_err-push_if-clause-err
returns-in_err-push_if-clause-err g c = on_err c.from_residual.result (steps.empty_front c.push_if.new.out.items _ (c.in_err-push_if.ensures.err ∙ c.requires.empty))

pub returns-in_err-push_if-2-clause-err : goal.returns-in_err-push_if-2-clause-err
returns-in_err-push_if-2-clause-err g c =
    on_err c.from_residual-in_err-push_if-2.result
    (steps.up_front (g.T.Tree.document c.args.tree.now) c.args.axis c.args.x c.args.test.now c.loop-y.y c.push_if-in-loop-y.new.out.items (omega (arith, c.loop-y.invariant.low, c.requires.row)) (c.in_err-push_if-2.ensures.err ∙ c.loop-y.invariant.found))
