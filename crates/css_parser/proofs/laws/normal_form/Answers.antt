use Rattle.css_parser.proofs.NormalLists as lists
use Rattle.css_parser.proofs.laws.normal_form.Goals as goal

pub returns : goal.returns
returns c = lists.normal_form
