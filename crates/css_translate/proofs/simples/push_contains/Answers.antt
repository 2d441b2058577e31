use Rattle.std.proofs.Common.{codes}
use Rattle.css_translate.proofs.Pushes.{two}
use Rattle.css_translate.proofs.simples.push_contains.Goals as goal

pub returns : goal.returns
returns c = two _ _ (codes "[contains(., ") _ _ _ c.in_ok-push.ensures (two _ _ _ _ _ _ c.in_ok-push_value.ensures c.push-2.ensures)
