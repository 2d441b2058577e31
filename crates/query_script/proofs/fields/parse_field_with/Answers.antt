use Rattle.std.proofs.Common.{inl, refl, ◌∙◌}
use Rattle.std.proofs.lemmas.Str.{chars-nil}
use Rattle.test_registry.specs.View.{known}
use Rattle.query_script.proofs.FieldLemmas.{unnamed, is_field}
use Rattle.query_script.proofs.fields.parse_field_with.Goals as goal

pub returns-in_ok-of-in-None-clause-is : goal.returns-in_ok-of-in-None-clause-is
returns-in_ok-of-in-None-clause-is g c = record {
  name = c.in_ok-of-in-None.ensures ∙ (chars-nil ∙ unnamed c.args.piece.now c.in-None.ensures);
  reads = inl (record { unnamed = c.in-None.ensures; is = refl });
}

pub returns-in_ok-chain-in-Some-clause-is : goal.returns-in_ok-chain-in-Some-clause-is
returns-in_ok-chain-in-Some-clause-is g c =
    let named = c.in-Some.ensures in
    is_field (known c.args.tests.now) c.args.dialect c.args.piece.now c.in-Some.name.now c.in-Some.rest.now c.in_ok-of-in-Some.field-0 c.in_ok-chain-in-Some.field-0 named.0 named.1 named.2 c.in_ok-of-in-Some.ensures c.in_ok-chain-in-Some.ensures.is
