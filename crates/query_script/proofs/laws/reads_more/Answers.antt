use Rattle.query_script.proofs.MoreLemmas.{field_more}
use Rattle.query_script.proofs.laws.reads_more.Goals as goal

pub returns : goal.returns
returns c = field_more
