use Rattle.std.proofs.Common.{codes, sym, ap}
use Rattle.css_printed.specs.Simples.{siblings_text}
use Rattle.css_translate.proofs.Pushes.{two, same_piece}
use Rattle.css_translate.proofs.positions.push_siblings.Goals as goal

pub returns-in_ok-push-in-OfType : goal.returns-in_ok-push-in-OfType
returns-in_ok-push-in-OfType c = same_piece _ _ _ _ _ (ap (siblings_text c.args.dialect c.args.element.now) (sym c.in-OfType.is))
    (two _ _ (codes "preceding-sibling::") _ _ _ c.in_ok-push-in-OfType.ensures c.push_element.ensures)

pub returns-in_ok-push-in-LastOfType : goal.returns-in_ok-push-in-LastOfType
returns-in_ok-push-in-LastOfType c = same_piece _ _ _ _ _ (ap (siblings_text c.args.dialect c.args.element.now) (sym c.in-LastOfType.is))
    (two _ _ (codes "following-sibling::") _ _ _ c.in_ok-push-in-LastOfType.ensures c.push_element-in-LastOfType.ensures)
