use Rattle.query_chain.proofs.Values as values
use Rattle.query_chain.proofs.laws.a_value.Goals as goal

pub returns : goal.returns
returns c = values.a_value
