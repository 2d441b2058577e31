use Rattle.css_parser.proofs.DepthLemmas.{keeps_ends, read_alike}
use Rattle.css_parser.proofs.laws.choices_without_depth.Goals as goal

pub returns-clause-alike : goal.returns-clause-alike
returns-clause-alike c = read_alike

pub returns-clause-ends : goal.returns-clause-ends
returns-clause-ends c = keeps_ends
