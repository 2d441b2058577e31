use Rattle.std.proofs.Common.{drop}
use Rattle.test_registry.specs.View.{known}
use Rattle.query_script.proofs.QueryLemmas.{Keeping}
use Rattle.query_script.proofs.queries.chain_of.Given as goal

abbrev pub invariant-loop-one : goal.invariant-loop-one
invariant-loop-one g l = Keeping (known l.fn.tests) l.fn.dialect l.written (drop l.one-index l.written) l.kept.items l.nodes
