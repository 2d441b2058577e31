use Rattle.std.proofs.Common.{◌∙◌}
use Rattle.query_script.proofs.SplitLemmas.{split_none, split_some, split_before, split_after}
use Rattle.query_script.proofs.names.split_at.Goals as goal

pub returns-then-at-text : goal.returns-then-at-text
returns-then-at-text c = split_none c.args.byte c.args.text.now c.find_byte-at.result c.find_byte-at.ensures.end c.if-at-text.true

pub returns : goal.returns
returns c = (
  split_some c.args.byte c.args.text.now c.find_byte-at.result c.find_byte-at.ensures.end c.if-at-text.false,
  c.part.ensures ∙ split_before c.args.byte c.args.text.now c.find_byte-at.result c.find_byte-at.ensures.end,
  c.part-2.ensures ∙ split_after c.args.byte c.args.text.now c.find_byte-at.result c.find_byte-at.ensures.end c.if-at-text.false,
)
