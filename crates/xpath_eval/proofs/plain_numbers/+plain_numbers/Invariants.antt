use Rattle.std.proofs.Common.{◌≡◌, map, drop}
use Rattle.xpath_values.specs.declared.value.Value.TheVariants.{Num}
use Rattle.xpath_parser.specs.declared.expression.Operand.{Operand}
use Rattle.xpath_parser.specs.Denote as spec
use Rattle.xpath_eval.specs.inner.Places.{context}
use Rattle.xpath_eval.proofs.plain_numbers.+plain_numbers.Given as goal

abbrev pub invariant-number_joined-loop-operand : goal.invariant-number_joined-loop-operand
invariant-number_joined-loop-operand g l =
    let doc = g.S.Tree.document l.source in
    let arm = λ (o : Operand). spec.arm_at doc o (context l.place) in
    spec.joined doc (Num l.value) (map arm (drop l.operand-index l.operands)) ≡ spec.joined doc (Num l.fn.first) (map arm l.operands)
