use Rattle.std.proofs.Common.{◌++◌, drop, ap, inl, inr, ◌∙◌}
use Rattle.doc_model.proofs.Runs as runs
use Rattle.doc_model.proofs.row_lists.merge_into.Goals as goal
use Rattle.doc_model.proofs.row_lists.merge_into.Goals.{then-loop-i-test+else-j-b, else-loop-i-test}

pub loop-i-preserved : goal.loop-i-preserved
loop-i-preserved c =
    runs.turned c.args.a.now c.args.b.now c.loop-i.out.items c.push.new.self.items c.loop-i.i c.loop-i.j c.smaller-next.result.row c.smaller-next.result.i c.smaller-next.result.j
    c.loop-i-test.true c.if-j-b.true c.loop-i.invariant.2 c.in_ok-push.ensures.items c.smaller-next.ensures.row c.smaller-next.ensures.i c.smaller-next.ensures.j

pub returns-clause-rows : goal.returns-clause-rows
returns-clause-rows c =
    let a = c.args.a.now in
    let b = c.args.b.now in
    runs.finished a b c.loop-i.out.items c.extend_from_slice.new.self.items c.extend_from_slice-2.new.self.items (drop c.loop-i.i a) (drop c.loop-i.j b)
    c.loop-i.invariant.2
    (elim c.loop-i-test.branch [ then-loop-i-test+else-j-b w ↦ inr (runs.none_left b c.loop-i.j c.loop-i.invariant.1 w.if-j-b.false) | else-loop-i-test w ↦ inl (runs.none_left a c.loop-i.i c.loop-i.invariant.0 w.loop-i-test.false) ])
    (c.in_ok-extend_from_slice.ensures.items ∙ ap (λ v. c.loop-i.out.items ++ v) (runs.rest_from a c.loop-i.i))
    (c.in_ok-extend_from_slice-2.ensures.items ∙ ap (λ v. c.extend_from_slice.new.self.items ++ v) (runs.rest_from b c.loop-i.j))

pub returns-in_err-push-clause-part : goal.returns-in_err-push-clause-part
returns-in_err-push-clause-part c =
    let a = c.args.a.now in
    let b = c.args.b.now in
    runs.on_err c.from_residual.result (λ n r q. runs.front_same a b c.loop-i.out.items c.push.new.self.items (drop c.loop-i.i a) (drop c.loop-i.j b) c.loop-i.invariant.2 c.in_err-push.ensures.items n r q)

pub returns-in_err-extend_from_slice-clause-part : goal.returns-in_err-extend_from_slice-clause-part
returns-in_err-extend_from_slice-clause-part c =
    let a = c.args.a.now in
    let b = c.args.b.now in
    runs.on_err c.from_residual-in_err-extend_from_slice.result
    (λ n r q. runs.front_same a b c.loop-i.out.items c.extend_from_slice.new.self.items (drop c.loop-i.i a) (drop c.loop-i.j b) c.loop-i.invariant.2 c.in_err-extend_from_slice.ensures.items n r q)

pub returns-in_err-extend_from_slice-2-clause-part : goal.returns-in_err-extend_from_slice-2-clause-part
returns-in_err-extend_from_slice-2-clause-part c =
    let a = c.args.a.now in
    let b = c.args.b.now in
    runs.on_err c.from_residual-in_err-extend_from_slice-2.result
    (runs.stopped a b c.loop-i.out.items c.extend_from_slice.new.self.items c.extend_from_slice-2.new.self.items (drop c.loop-i.i a) (drop c.loop-i.j b)
    c.loop-i.invariant.2
    (elim c.loop-i-test.branch [ then-loop-i-test+else-j-b w ↦ inr (runs.none_left b c.loop-i.j c.loop-i.invariant.1 w.if-j-b.false) | else-loop-i-test w ↦ inl (runs.none_left a c.loop-i.i c.loop-i.invariant.0 w.loop-i-test.false) ])
    (c.in_ok-extend_from_slice.ensures.items ∙ ap (λ v. c.loop-i.out.items ++ v) (runs.rest_from a c.loop-i.i))
    c.in_err-extend_from_slice-2.ensures.items)
