use Rattle.xpath_parser.proofs.MoreTerms as terms
use Rattle.xpath_parser.proofs.laws.reads_more.Goals as goal

pub returns : goal.returns
returns c = terms.reads_more
