use Rattle.std.proofs.Common.{sym, ◌∙◌, subst}
use Rattle.xpath_eval.specs.inner.Tests.{IsNoNumber, EndsCompared}
use Rattle.xpath_eval.proofs.Covering.{was_false}
use Rattle.xpath_eval.proofs.Placeless as placeless
use Rattle.xpath_eval.proofs.tests_of_rows.is_no_number.Goals as goal

pub returns-in-Or : goal.returns-in-Or
returns-in-Or c = λ told. subst IsNoNumber (sym c.in-Or.is) (placeless.or_no_number c.in-Or.field-0)

pub returns-in-And : goal.returns-in-And
returns-in-And c = λ told. subst IsNoNumber (sym c.in-And.is) (placeless.and_no_number c.in-And.field-0)

pub returns-in-Joined : goal.returns-in-Joined
returns-in-Joined c = λ told.
    subst IsNoNumber (sym c.in-Joined.is) (placeless.compared_no_number c.in-Joined.field-0 c.in-Joined.operands (subst EndsCompared c.as_slice.ensures (c.ends_compared.ensures told)))

pub returns-in-Union : goal.returns-in-Union
returns-in-Union c = λ told. subst IsNoNumber (sym c.in-Union.is) (placeless.union_no_number c.in-Union.field-0)

pub returns-in-Path : goal.returns-in-Path
returns-in-Path c = λ told. subst IsNoNumber (sym c.in-Path.is) (placeless.path_no_number c.in-Path.field-0 c.in-Path.field-1)

pub returns-in-Filter : goal.returns-in-Filter
returns-in-Filter c = λ told. subst IsNoNumber (sym c.in-Filter.is) (placeless.filter_no_number c.in-Filter.field-0 c.in-Filter.field-1)

pub returns-in-Literal : goal.returns-in-Literal
returns-in-Literal c = λ told. subst IsNoNumber (sym c.in-Literal.is) (placeless.literal_no_number c.in-Literal.field-0)

pub returns-in-Call : goal.returns-in-Call
returns-in-Call c = λ told. subst IsNoNumber (sym c.in-Call.is) (placeless.call_no_number c.in-Call.func c.in-Call.field-1 (sym c.gives_number.ensures ∙ was_false _ told))
