use Rattle.xpath_parser.proofs.laws.asks_stored.Goals as goal
use Rattle.xpath_parser.proofs.Asked as asked

pub returns : goal.returns
returns c = asked.asks_only
