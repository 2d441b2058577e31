use Rattle.std.proofs.Common.{take}
use Rattle.xpath_eval.specs.inner.Tests.{EachPlaceless, EachOperandPlaceless}
use Rattle.xpath_eval.proofs.tests_of_rows.+placeless.Given as goal

abbrev pub invariant-are_placeless-loop-e : goal.invariant-are_placeless-loop-e
invariant-are_placeless-loop-e l = EachPlaceless (take l.e-index l.es)

abbrev pub invariant-operands_are_placeless-loop-operand : goal.invariant-operands_are_placeless-loop-operand
invariant-operands_are_placeless-loop-operand l = EachOperandPlaceless (take l.operand-index l.operands)
