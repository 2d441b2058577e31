use Rattle.std.proofs.Common.{codes}
use Rattle.css_translate.proofs.Pushes.{two}
use Rattle.css_translate.proofs.attributes.push_either.Goals as goal

pub returns : goal.returns
returns c = two _ _ (codes "[") _ _ _ c.in_ok-push.ensures (two _ _ _ _ _ _ c.in_ok-push-2.ensures (two _ _ (codes " and (") _ _ _ c.in_ok-push-3.ensures (two _ _ _ _ _ _ c.in_ok-push-4.ensures (two _ _ (codes " = ") _ _ _ c.in_ok-push-5.ensures (two _ _ _ _ _ _ c.in_ok-push_value.ensures (two _ _ (codes " or starts-with(") _ _ _ c.in_ok-push-6.ensures (two _ _ _ _ _ _ c.in_ok-push-7.ensures (two _ _ (codes ", ") _ _ _ c.in_ok-push-8.ensures (two _ _ _ _ _ _ c.in_ok-push_literal.ensures c.push-9.ensures)))))))))
