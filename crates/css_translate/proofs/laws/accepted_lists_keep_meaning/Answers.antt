use Rattle.css_translate.proofs.Accepted.{accepted_law}
use Rattle.css_translate.proofs.laws.accepted_lists_keep_meaning.Goals as goal

pub returns : goal.returns
returns c = accepted_law
