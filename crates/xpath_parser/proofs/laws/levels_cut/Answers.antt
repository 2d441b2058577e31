use Rattle.xpath_parser.proofs.laws.levels_cut.Goals as goal
use Rattle.xpath_parser.proofs.Levels as levels

pub returns : goal.returns
returns c = levels.levels_cut
