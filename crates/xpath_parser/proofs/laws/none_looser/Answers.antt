use Rattle.xpath_parser.proofs.laws.none_looser.Goals as goal
use Rattle.xpath_parser.proofs.Levels as levels

pub returns : goal.returns
returns c = levels.none_looser
