use Rattle.std.proofs.Common.{codes}
use Rattle.extract_call.proofs.BulkLemmas.{item_more}
use Rattle.extract_call.proofs.bulk.bulk_page.Goals as goal

pub loop-i-preserved : goal.loop-i-preserved
loop-i-preserved c = item_more _ _ (codes "<!DOCTYPE html><html><head><title>bulk</title></head><body><ul>") c.loop-i.i c.loop-i.invariant c.in_ok-push_item.ensures
