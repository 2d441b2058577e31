use Rattle.std.proofs.Common.{◌<◌, length}
use Rattle.query_chain.proofs.Lists.{all_first}
use Rattle.query_chain.proofs.items.Items.first.Goals as goal

pub returns-in-Rows-clause-within : goal.returns-in-Rows-clause-within
returns-in-Rows-clause-within c = λ doc h.
    rw c.truncate.ensures.items (all_first (λ x. x < length doc) c.in-Rows.rows.items 1 (rw c.in-Rows.is at h))
