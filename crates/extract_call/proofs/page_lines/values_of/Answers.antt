use Rattle.page_records.specs.Records.{entry_outcome}
use Rattle.extract_call.proofs.Tasks.{mapped_more}
use Rattle.extract_call.proofs.page_lines.values_of.Goals as goal

pub loop-one-preserved : goal.loop-one-preserved
loop-one-preserved g c =
    mapped_more (entry_outcome (g.S.Tree.document c.args.source.now)) c.args.ready.now c.loop-one.values.items _ c.loop-one.one-index c.one-item.result _
    c.loop-one.invariant c.loop-one-test.true c.one-item.is c.in_ok-run_ready_entry.ensures c.in_ok-push.ensures.items
