use Rattle.std.proofs.lemmas.Result.{err_from_is_err_and}
use Rattle.query_chain.proofs.Matching.{whole_added, group_added, groups_many}
use Rattle.query_chain.proofs.search.add_match.Goals as goal

pub returns-then-groups-le1-clause-ok : goal.returns-then-groups-le1-clause-ok
returns-then-groups-le1-clause-ok c = λ m is.
    whole_added c.args.limits _ _ c.args.captures.now m c.args.groups _ c.if-groups-le1.true is c.group_text.ensures c.in_ok-add.ensures.ok

pub returns-in_err-add-2-clause-many : goal.returns-in_err-add-2-clause-many
returns-in_err-add-2-clause-many c =
    let p = err_from_is_err_and c.from_residual-in_err-add-2.result c.from_residual-in_err-add-2.ensures.1 in
    rw (p.1, p.2) (λ e m is. groups_many c.args.limits _ _ c.args.groups c.loop-k.k _ m c.loop-k.auto.k c.loop-k-test.true (c.loop-k.invariant m is) (c.in_err-add-2.ensures.many e))

pub loop-k-preserved : goal.loop-k-preserved
loop-k-preserved c = λ m is.
    group_added c.args.limits _ _ _ c.args.captures.now m c.loop-k.k _ c.loop-k.auto.k is (c.loop-k.invariant m is) c.group_text-in-loop-k.ensures c.in_ok-add-2.ensures.ok
