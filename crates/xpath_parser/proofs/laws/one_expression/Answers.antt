use Rattle.xpath_parser.proofs.laws.one_expression.Goals as goal
use Rattle.xpath_parser.proofs.Complete as complete

pub returns : goal.returns
returns c = complete.one_expression_over
