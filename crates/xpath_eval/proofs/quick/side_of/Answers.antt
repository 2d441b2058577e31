use Rattle.std.proofs.Common.{sym, ◌∙◌, ap, subst, refl}
use Rattle.std.specs.Str.{chars}
use Rattle.xpath_values.specs.declared.value.Value.{Value}
use Rattle.xpath_values.specs.Compares as plain
use Rattle.xpath_parser.specs.Denote as spec
use Rattle.xpath_parser.proofs.Equations as eqs
use Rattle.xpath_eval.specs.inner.Places.{context}
use Rattle.xpath_eval.specs.inner.Sides.{IsOne, IsSide}
use Rattle.xpath_eval.proofs.Sides.{attribute_path}
use Rattle.xpath_eval.proofs.quick.side_of.Goals as goal

pub returns-in-Some : goal.returns-in-Some
returns-in-Some g c =
    let doc = g.S.Tree.document c.args.source.now in
    subst (λ (v : Value). IsSide doc v c.attribute_side.result) (sym (attribute_path doc c.args.e.now (chars c.in-Some.name.now) (context c.args.place) c.in-Some.ensures)) c.attribute_side.ensures

pub returns-in-Literal : goal.returns-in-Literal
returns-in-Literal g c =
    let doc = g.S.Tree.document c.args.source.now in
    let at = context c.args.place in
    subst (λ (v : Value). IsOne doc v (plain.chars (chars c.as_str.result.now)))
    (sym (eqs.at_literal doc c.in-Literal.text at) ∙ sym (ap (λ x. spec.denote doc x at) c.in-Literal.is))
    (ap plain.chars (sym c.as_str.ensures.chars))

pub returns-in-Some-number_at : goal.returns-in-Some-number_at
returns-in-Some-number_at g c =
    let doc = g.S.Tree.document c.args.source.now in
    subst (λ (v : Value). IsOne doc v (plain.num c.in-Some-number_at.number)) (sym c.in-Some-number_at.ensures) refl
