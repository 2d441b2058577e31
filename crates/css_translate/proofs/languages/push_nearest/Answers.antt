use Rattle.std.proofs.Common.{codes}
use Rattle.css_translate.proofs.Pushes.{two}
use Rattle.css_translate.proofs.languages.push_nearest.Goals as goal

pub returns : goal.returns
returns c = two _ _ (codes "[ancestor-or-self::*[@lang][1][starts-with(concat(translate(@lang, 'ABCDEFGHIJKLMNOPQRSTUVWXYZ', 'abcdefghijklmnopqrstuvwxyz'), '-'), ") _ _ _ c.in_ok-push.ensures (two _ _ _ _ _ _ c.in_ok-push_literal.ensures c.push-2.ensures)
