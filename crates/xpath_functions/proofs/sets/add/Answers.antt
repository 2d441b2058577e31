use Rattle.xpath_functions.proofs.TextSets.{added}
use Rattle.xpath_functions.proofs.sets.add.Goals as goal

pub returns : goal.returns
returns c = added c.args.text.now c.args.set.now c.insert.new.self c.utf8.text c.in_ok-insert.ensures.updates
