use Rattle.std.proofs.Common.{codes}
use Rattle.css_translate.proofs.Pushes.{two}
use Rattle.css_translate.proofs.attributes.push_end.Goals as goal

pub returns : goal.returns
returns c = two _ _ (codes "[") _ _ _ c.in_ok-push.ensures (two _ _ _ _ _ _ c.in_ok-push-2.ensures (two _ _ (codes " and substring(") _ _ _ c.in_ok-push-3.ensures (two _ _ _ _ _ _ c.in_ok-push-4.ensures (two _ _ (codes ", string-length(") _ _ _ c.in_ok-push-5.ensures (two _ _ _ _ _ _ c.in_ok-push-6.ensures (two _ _ (codes ") - ") _ _ _ c.in_ok-push-7.ensures (two _ _ _ _ _ _ c.in_ok-push_decimal.ensures (two _ _ (codes ") = ") _ _ _ c.in_ok-push-8.ensures (two _ _ _ _ _ _ c.in_ok-push_value.ensures c.push-9.ensures)))))))))
