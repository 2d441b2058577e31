use Rattle.std.proofs.Common.{codes}
use Rattle.css_translate.proofs.Pushes.{two}
use Rattle.css_translate.proofs.attributes.push_one_word.Goals as goal

pub returns : goal.returns
returns c = two _ _ (codes "[") _ _ _ c.in_ok-push.ensures (two _ _ _ _ _ _ c.in_ok-push-2.ensures (two _ _ (codes " and contains(concat(' ', normalize-space(") _ _ _ c.in_ok-push-3.ensures (two _ _ _ _ _ _ c.in_ok-push-4.ensures (two _ _ (codes "), ' '), ") _ _ _ c.in_ok-push-5.ensures (two _ _ _ _ _ _ c.in_ok-push_literal.ensures c.push-6.ensures)))))
