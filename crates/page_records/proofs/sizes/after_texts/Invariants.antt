use Rattle.std.proofs.Common.{◌≡◌, ◌+◌, take}
use Rattle.query_chain.specs.Items.{bytes_of}
use Rattle.page_records.proofs.sizes.after_texts.Given as goal

abbrev pub invariant-loop-text : goal.invariant-loop-text
invariant-loop-text l = record {
  left : l.rest + bytes_of (take l.text-index l.texts) ≡ l.left;
}
