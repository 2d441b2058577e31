use Rattle.std.proofs.Common.{◌∙◌}
use Rattle.xpath_functions.proofs.TextSets.{has_bytes}
use Rattle.xpath_functions.proofs.sets.has.Goals as goal

pub returns : goal.returns
returns c = c.contains.ensures ∙ has_bytes c.args.set.now c.args.text.now c.utf8.text
