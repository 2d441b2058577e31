use Rattle.query_chain.proofs.Values as values
use Rattle.query_chain.proofs.laws.one_value.Goals as goal

pub returns : goal.returns
returns c = values.one_value
