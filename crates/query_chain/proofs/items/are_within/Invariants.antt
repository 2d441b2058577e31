use Rattle.std.proofs.Common.{◌≡◌, ◌+◌, take}
use Rattle.query_chain.specs.Items.{bytes_of}
use Rattle.query_chain.proofs.items.are_within.Given as goal

abbrev pub invariant-loop-text : goal.invariant-loop-text
invariant-loop-text l = l.left + bytes_of (take l.text-index l.texts) ≡ l.limit
