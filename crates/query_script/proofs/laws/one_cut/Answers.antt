use Rattle.query_script.proofs.ChainLemmas as chains
use Rattle.query_script.proofs.laws.one_cut.Goals as goal

pub returns : goal.returns
returns c = chains.one_cut
