use Rattle.std.proofs.Common.{subst}
use Rattle.std.proofs.lemmas.List.{take_all}
use Rattle.xpath_eval.specs.inner.Tests.{IsTest, AreTests}
use Rattle.xpath_eval.proofs.Lists.{all_more}
use Rattle.xpath_eval.proofs.tests_of_rows.are_tests.Goals as goal

pub loop-e-preserved : goal.loop-e-preserved
loop-e-preserved c = all_more IsTest c.args.es.now c.loop-e.e-index c.e-item.result c.e-item.is c.loop-e-test.true c.loop-e.invariant (c.is_test.ensures c.if-not-is_test.false)

pub returns : goal.returns
returns c = λ told. subst AreTests (take_all c.loop-e.e-index c.args.es.now c.loop-e-test.false) c.loop-e.invariant
