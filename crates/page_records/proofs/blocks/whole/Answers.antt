use Rattle.std.proofs.Common.{map, refl}
use Rattle.std.proofs.lemmas.Result.{IfOk-weaker}
use Rattle.test_registry.specs.View.{known}
use Rattle.page_records.proofs.ContentLemmas.{twins, all_differ}
use Rattle.page_records.proofs.blocks.whole.Goals as goal

pub returns-then-not-differ-clause-is : goal.returns-then-not-differ-clause-is
returns-then-not-differ-clause-is g c =
    IfOk-weaker c.refused.result _ _ (twins (known c.args.tests.now) c.args.dialect c.args.steps.items (map (λ p. p.now) c.args.pieces.now) c.in_ok-fields.fields.items c.in_ok-fields.ensures.are
    (rw c.as_slice.ensures.value at (c.if-not-differ.ensures.no refl))) c.refused.ensures.is

pub returns-clause-is : goal.returns-clause-is
returns-clause-is g c = (
  c.from_vec.ensures,
  (
    rw c.from_vec-2.ensures c.in_ok-fields.ensures.are,
    all_differ (known c.args.tests.now) c.args.dialect c.args.steps.items (map (λ p. p.now) c.args.pieces.now) c.in_ok-fields.fields.items c.in_ok-fields.ensures.are
        (rw c.as_slice.ensures.value at (c.if-not-differ.ensures.yes refl)),
  ),
)
