use Rattle.xpath_parser.proofs.laws.one_fault.Goals as goal
use Rattle.xpath_parser.proofs.Refused as refused

pub returns : goal.returns
returns c = refused.one_fault_over
