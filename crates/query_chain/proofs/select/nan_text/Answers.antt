use Rattle.std.proofs.Common.{◌∙◌}
use Rattle.query_chain.proofs.Words.{nan_chars}
use Rattle.query_chain.proofs.select.nan_text.Goals as goal

pub returns : goal.returns
returns c = c.in_ok-of.ensures ∙ nan_chars
