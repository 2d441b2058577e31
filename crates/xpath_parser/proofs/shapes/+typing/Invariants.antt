use Rattle.std.specs.Prelude.{◌≡◌, drop}
use Rattle.std.specs.List.{list_all}
use Rattle.xpath_parser.specs.inner.Typings.{step_right, operand_right, fits}
use Rattle.xpath_parser.proofs.shapes.+typing.Given as goal

abbrev pub invariant-all_fit-loop-e : goal.invariant-all_fit-loop-e
invariant-all_fit-loop-e l = list_all (fits l.wanted) (drop l.e-index l.es) ≡ list_all (fits l.wanted) l.es

abbrev pub invariant-operands_right-loop-operand : goal.invariant-operands_right-loop-operand
invariant-operands_right-loop-operand l = list_all operand_right (drop l.operand-index l.operands) ≡ list_all operand_right l.operands

abbrev pub invariant-steps_right-loop-step : goal.invariant-steps_right-loop-step
invariant-steps_right-loop-step l = list_all step_right (drop l.step-index l.steps) ≡ list_all step_right l.steps
