use Rattle.std.proofs.Common.{string_bytes, refl}
use Rattle.why_call.proofs.Said.{entries_step}
use Rattle.why_call.proofs.scripts.entries_said.Goals as goal

pub loop-at-preserved : goal.loop-at-preserved
loop-at-preserved c =
    entries_step (string_bytes c.loop-at.out) _ c.args.pieces.now c.args.entries.now c.loop-at.at _ _ c.index-entries-at.result _ c.requires c.loop-at-test.true refl c.index-entries-at.is c.loop-at.invariant c.in_ok-push_entry.ensures
