use Rattle.std.proofs.Common.{◌∙◌}
use Rattle.xpath_functions.proofs.TextSets.{has_bytes, taken_out}
use Rattle.xpath_functions.proofs.sets.take_out.Goals as goal

pub returns-clause-was : goal.returns-clause-was
returns-clause-was c = c.remove.ensures.test ∙ has_bytes c.args.set.now c.args.text.now c.utf8.text

pub returns-clause-rest : goal.returns-clause-rest
returns-clause-rest c = taken_out c.args.text.now c.args.set.now c.remove.new.self c.utf8.text c.remove.ensures.updates
