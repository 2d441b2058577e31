use Rattle.std.proofs.Common.{refl}
use Rattle.test_registry.specs.View.{known}
use Rattle.query_chain.proofs.Readying.{readable_of, all_asks}
use Rattle.query_chain.proofs.ready.prepare_with.Goals as goal

pub prepare_all-requires : goal.prepare_all-requires
prepare_all-requires g c = rw c.as_slice.ensures (readable_of (known c.args.tests.now) c.in-Steps.steps (rw c.in-Steps.is at c.requires.ordered))

pub returns-in-Ok-clause-task : goal.returns-in-Ok-clause-task
returns-in-Ok-clause-task g c = rw c.in-Steps.is (rw c.as_slice.ensures at c.in-Ok.ensures.does, refl)

pub returns-in-Ok-clause-asks : goal.returns-in-Ok-clause-asks
returns-in-Ok-clause-asks g c =
    all_asks (known c.args.tests.now) c.in-Steps.steps _ (rw c.as_slice.ensures at c.in-Ok.ensures.does) (rw c.in-Steps.is at c.requires.stored)
