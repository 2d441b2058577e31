use Rattle.xpath_parser.proofs.laws.never_both.Goals as goal
use Rattle.xpath_parser.proofs.Refused as refused

pub returns : goal.returns
returns c = refused.never_both_over
