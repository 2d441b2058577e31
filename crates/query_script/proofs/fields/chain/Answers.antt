use Rattle.std.proofs.Common.{sym}
use Rattle.query_script.proofs.ChainLemmas.{no_chain}
use Rattle.query_script.proofs.fields.chain.Goals as goal

pub returns-in-None-clause-is : goal.returns-in-None-clause-is
returns-in-None-clause-is g c = no_chain c.args.text.now (sym (rw c.in-None.is at c.in_ok-read_chain.ensures))
