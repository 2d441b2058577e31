use Rattle.std.proofs.Common.{◌-◌, length, get_or, arith}
use Rattle.xpath_eval.proofs.Lists.{member_at}
use Rattle.xpath_eval.proofs.contexts.is_covered.Goals as goal

pub returns : goal.returns
returns g c = λ told. (get_or c.args.few.now (length c.args.few.now - 1) 0, member_at c.args.few.now (length c.args.few.now - 1) (omega arith), c.adds_nothing.ensures told)
