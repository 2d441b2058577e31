use Rattle.std.proofs.Common.{codes}
use Rattle.css_translate.proofs.Pushes.{two}
use Rattle.css_translate.proofs.steps.push_next.Goals as goal

pub returns : goal.returns
returns c = two _ _ (codes "following-sibling::*[1]") _ _ _ c.in_ok-push.ensures c.push_own_name.ensures
