use Rattle.std.proofs.Common.{arith, refl}
use Rattle.test_registry.specs.View.{known}
use Rattle.query_script.proofs.QueryLemmas.{keeping_next, all_keep, all_ordered, all_stored}
use Rattle.query_script.proofs.queries.chain_of.Goals as goal

pub loop-one-preserved : goal.loop-one-preserved
loop-one-preserved g c =
    rw c.in_ok-push-in-Kept.ensures.items (keeping_next (known c.args.tests.now) c.args.dialect c.args.written.now c.loop-one.one-index c.one-item.result c.loop-one.kept.items c.loop-one.nodes c.in-Kept.after c.in-Kept.step
    c.one-item.is c.loop-one-test.true c.loop-one.invariant (rw c.in-Kept.is at c.in_ok-step.ensures.is) (rw c.in-Kept.is at c.in_ok-step.ensures.ordered) (rw c.in-Kept.is at c.in_ok-step.ensures.stored))

pub returns-clause-found : goal.returns-clause-found
returns-clause-found g c = (rw c.from_vec.ensures (all_keep (known c.args.tests.now) c.args.dialect c.args.written.now c.loop-one.one-index c.loop-one.kept.items c.loop-one.nodes (omega arith) c.loop-one.invariant), refl)

pub returns-clause-ordered : goal.returns-clause-ordered
returns-clause-ordered g c = rw c.from_vec.ensures (all_ordered (known c.args.tests.now) c.args.dialect c.args.written.now c.loop-one.one-index c.loop-one.kept.items c.loop-one.nodes (omega arith) c.loop-one.invariant)

pub returns-clause-stored : goal.returns-clause-stored
returns-clause-stored g c = rw c.from_vec.ensures (all_stored (known c.args.tests.now) c.args.dialect c.args.written.now c.loop-one.one-index c.loop-one.kept.items c.loop-one.nodes (omega arith) c.loop-one.invariant)
