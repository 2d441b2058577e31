use Rattle.std.proofs.Common.{◌∙◌}
use Rattle.query_chain.proofs.Words.{true_chars, false_chars}
use Rattle.query_chain.proofs.select.truth_text.Goals as goal

pub returns-in_ok-of : goal.returns-in_ok-of
returns-in_ok-of c = rw c.if-truth.true (c.in_ok-of.ensures ∙ true_chars)

pub returns-in_ok-of-2 : goal.returns-in_ok-of-2
returns-in_ok-of-2 c = rw c.if-truth.false (c.in_ok-of-2.ensures ∙ false_chars)
