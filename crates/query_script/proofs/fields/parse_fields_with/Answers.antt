use Rattle.test_registry.specs.View.{known}
use Rattle.query_script.specs.Ordered.{IsOrderedOver, KeepsStored}
use Rattle.query_script.proofs.FieldLemmas.{fields_more, all_push}
use Rattle.query_script.proofs.fields.parse_fields_with.Goals as goal

pub loop-piece-preserved : goal.loop-piece-preserved
loop-piece-preserved g c =
    let tests = known c.args.tests.now in
    let fields = c.loop-piece.all.items in
    let field = c.in_ok-parse_field_with.field-0 in
    record {
      are = rw c.in_ok-push.ensures.items (fields_more tests c.args.dialect (λ p. p.now) c.args.pieces.now c.loop-piece.piece-index _ fields field c.loop-piece.invariant.are c.loop-piece-test.true c.in_ok-parse_field_with.ensures.is);
      ordered = rw c.in_ok-push.ensures.items (all_push (IsOrderedOver tests) fields field c.loop-piece.invariant.ordered c.in_ok-parse_field_with.ensures.ordered);
      stored = rw c.in_ok-push.ensures.items (all_push (KeepsStored tests) fields field c.loop-piece.invariant.stored c.in_ok-parse_field_with.ensures.stored);
    }
