use Rattle.std.proofs.Common.{sym, ◌∙◌, subst}
use Rattle.std.proofs.lemmas.List.{take_all}
use Rattle.xpath_parser.specs.declared.expression.Operand.{Operand, out-Operand}
use Rattle.xpath_eval.specs.inner.Tests.{IsPlaceless, IsPlacelessStart, EachPlaceless, EachOperandPlaceless}
use Rattle.xpath_eval.proofs.Lists.{all_more}
use Rattle.xpath_eval.proofs.Placeless as placeless
use Rattle.xpath_eval.proofs.tests_of_rows.+placeless.Goals as goal

-- ---- lists

pub are_placeless-loop-e-preserved : goal.are_placeless-loop-e-preserved
are_placeless-loop-e-preserved t c =
    all_more IsPlaceless c.args.es.now c.loop-e.e-index c.e-item.result c.e-item.is c.loop-e-test.true c.loop-e.invariant (c.is_placeless.ensures c.if-not-is_placeless.false)

pub are_placeless-returns : goal.are_placeless-returns
are_placeless-returns t c = λ told. subst EachPlaceless (take_all c.loop-e.e-index c.args.es.now c.loop-e-test.false) c.loop-e.invariant

pub operands_are_placeless-loop-operand-preserved : goal.operands_are_placeless-loop-operand-preserved
operands_are_placeless-loop-operand-preserved t c =
    all_more (λ (o : Operand). IsPlaceless (out-Operand o).value) c.args.operands.now c.loop-operand.operand-index c.operand-item.result c.operand-item.is c.loop-operand-test.true
    c.loop-operand.invariant (c.is_placeless.ensures c.if-not-is_placeless.false)

pub operands_are_placeless-returns : goal.operands_are_placeless-returns
operands_are_placeless-returns t c = λ told. subst EachOperandPlaceless (take_all c.loop-operand.operand-index c.args.operands.now c.loop-operand-test.false) c.loop-operand.invariant

-- ---- forms

pub is_placeless-returns-in-Or : goal.is_placeless-returns-in-Or
is_placeless-returns-in-Or t c = λ told. subst IsPlaceless (sym c.in-Or.is) (placeless.or_placeless c.in-Or.es (subst EachPlaceless c.as_slice.ensures (c.are_placeless.ensures told)))

pub is_placeless-returns-in-And : goal.is_placeless-returns-in-And
is_placeless-returns-in-And t c = λ told.
    subst IsPlaceless (sym c.in-And.is) (placeless.and_placeless c.in-And.es (subst EachPlaceless c.as_slice-in-And.ensures (c.are_placeless-in-And.ensures told)))

pub is_placeless-returns-then-is_placeless : goal.is_placeless-returns-then-is_placeless
is_placeless-returns-then-is_placeless t c = λ told.
    subst IsPlaceless (sym c.in-Joined.is) (placeless.joined_placeless c.in-Joined.first c.in-Joined.operands (subst IsPlaceless c.get.ensures (c.is_placeless.ensures c.if-is_placeless.true))
    (subst EachOperandPlaceless c.as_slice-then-is_placeless.ensures (c.operands_are_placeless.ensures told)))

pub is_placeless-returns-in-Minus : goal.is_placeless-returns-in-Minus
is_placeless-returns-in-Minus t c = λ told.
    subst IsPlaceless (sym c.in-Minus.is) (placeless.minus_placeless c.in-Minus.field-0 c.in-Minus.operand (subst IsPlaceless c.get-in-Minus.ensures (c.is_placeless-in-Minus.ensures told)))

pub is_placeless-returns-in-Union : goal.is_placeless-returns-in-Union
is_placeless-returns-in-Union t c = λ told.
    subst IsPlaceless (sym c.in-Union.is) (placeless.union_placeless c.in-Union.es (subst EachPlaceless c.as_slice-in-Union.ensures (c.are_placeless-in-Union.ensures told)))

pub is_placeless-returns-in-Path : goal.is_placeless-returns-in-Path
is_placeless-returns-in-Path t c = λ told.
    subst IsPlaceless (sym c.in-Path.is) (placeless.path_placeless c.in-Path.start c.in-Path.field-1 (c.starts_placeless.ensures told))

pub starts_placeless-returns-in-Here : goal.starts_placeless-returns-in-Here
starts_placeless-returns-in-Here t c = λ told. subst IsPlacelessStart (sym c.in-Here.is) placeless.here_placeless

pub starts_placeless-returns-in-Root : goal.starts_placeless-returns-in-Root
starts_placeless-returns-in-Root t c = λ told. subst IsPlacelessStart (sym c.in-Root.is) placeless.root_placeless

pub starts_placeless-returns-in-From : goal.starts_placeless-returns-in-From
starts_placeless-returns-in-From t c = λ told.
    subst IsPlacelessStart (sym c.in-From.is) (placeless.from_placeless c.in-From.e (subst IsPlaceless c.get.ensures (c.is_placeless.ensures told)))

pub is_placeless-returns-in-Filter : goal.is_placeless-returns-in-Filter
is_placeless-returns-in-Filter t c = λ told.
    subst IsPlaceless (sym c.in-Filter.is) (placeless.filter_placeless c.in-Filter.filtered c.in-Filter.field-1 (subst IsPlaceless c.get-in-Filter.ensures (c.is_placeless-in-Filter.ensures told)))

pub is_placeless-returns-in-Literal : goal.is_placeless-returns-in-Literal
is_placeless-returns-in-Literal t c = λ told. subst IsPlaceless (sym c.in-Literal.is) (placeless.literal_placeless c.in-Literal.field-0)

pub is_placeless-returns-in-Number : goal.is_placeless-returns-in-Number
is_placeless-returns-in-Number t c = λ told. subst IsPlaceless (sym c.in-Number.is) (placeless.number_placeless c.in-Number.field-0)

pub is_placeless-returns-then-not-asks_for_place : goal.is_placeless-returns-then-not-asks_for_place
is_placeless-returns-then-not-asks_for_place t c = λ told.
    subst IsPlaceless (sym c.in-Call.is) (placeless.call_placeless c.in-Call.func c.in-Call.es (sym c.asks_for_place.ensures ∙ c.if-not-asks_for_place.true)
    (subst EachPlaceless c.as_slice-then-not-asks_for_place.ensures (c.are_placeless-then-not-asks_for_place.ensures told)))
