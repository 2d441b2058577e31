use Rattle.xpath_parser.proofs.laws.one_reading.Goals as goal
use Rattle.xpath_parser.proofs.Complete as complete

pub returns : goal.returns
returns c = complete.one_reading
