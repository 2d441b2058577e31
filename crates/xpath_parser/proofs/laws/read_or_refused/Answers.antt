use Rattle.xpath_parser.proofs.laws.read_or_refused.Goals as goal
use Rattle.xpath_parser.proofs.Refused as refused

pub returns : goal.returns
returns c = refused.read_or_refused_over
