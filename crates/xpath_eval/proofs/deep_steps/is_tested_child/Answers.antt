use Rattle.std.proofs.Common.{subst}
use Rattle.xpath_eval.specs.inner.Tests.{AreTests}
use Rattle.xpath_eval.proofs.deep_steps.is_tested_child.Goals as goal

pub returns-then-is_child : goal.returns-then-is_child
returns-then-is_child c = λ told. record {
  axis = c.is_child.ensures c.if-is_child.true;
  tests = subst AreTests c.as_slice.ensures (c.are_tests.ensures told);
}
