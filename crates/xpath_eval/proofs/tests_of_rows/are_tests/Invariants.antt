use Rattle.std.proofs.Common.{take}
use Rattle.xpath_eval.specs.inner.Tests.{AreTests}
use Rattle.xpath_eval.proofs.tests_of_rows.are_tests.Given as goal

abbrev pub invariant-loop-e : goal.invariant-loop-e
invariant-loop-e l = AreTests (take l.e-index l.es)
