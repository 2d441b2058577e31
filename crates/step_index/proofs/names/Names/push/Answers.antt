use Rattle.std.proofs.Common.{arith}
use Rattle.std.proofs.lemmas.Grind.{text_groups}
use Rattle.step_index.proofs.names.Names.push.Goals as goal

pub returns : goal.returns
returns c = λ q. grind (arith, text_groups)

pub returns-in-Some : goal.returns-in-Some
returns-in-Some c = λ q. grind (arith, text_groups)
