use Rattle.xpath_parser.proofs.laws.found_exactly.Goals as goal
use Rattle.xpath_parser.proofs.Complete as complete
use Rattle.xpath_parser.proofs.Sound as sound

pub returns : goal.returns
returns c = λ levels ts x fuel. (sound.reads levels ts x, λ r. complete.found ts x r levels fuel)
