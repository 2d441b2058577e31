use Rattle.test_registry.specs.View.{known}
use Rattle.page_records.proofs.BodyLemmas.{all_more, entries_more}
use Rattle.page_records.proofs.parsing.entries.Goals as goal

pub loop-piece-preserved : goal.loop-piece-preserved
loop-piece-preserved g c = record {
  are = rw c.in_ok-push.ensures.items (entries_more (λ p. p.now) (known c.args.tests.now) c.args.dialect c.args.pieces.now c.loop-piece.piece-index _ c.loop-piece-test.true c.loop-piece.all.items
      c.in_ok-entry.field-0 c.loop-piece.invariant.are c.in_ok-entry.ensures.is);
  ordered = rw c.in_ok-push.ensures.items (all_more _ c.loop-piece.all.items c.in_ok-entry.field-0 c.loop-piece.invariant.ordered c.in_ok-entry.ensures.ordered);
  stored = rw c.in_ok-push.ensures.items (all_more _ c.loop-piece.all.items c.in_ok-entry.field-0 c.loop-piece.invariant.stored c.in_ok-entry.ensures.stored);
}
