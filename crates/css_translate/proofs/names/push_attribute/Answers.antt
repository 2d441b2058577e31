use Rattle.std.proofs.Common.{codes, sym, ◌∙◌}
use Rattle.css_translate.proofs.Pushes.{two, same_piece}
use Rattle.css_printed.proofs.NameCases.{plain_attribute, odd_attribute}
use Rattle.css_translate.proofs.names.push_attribute.Goals as goal

pub returns-in_ok-push : goal.returns-in_ok-push
returns-in_ok-push c = same_piece _ _ _ _ _ (sym (plain_attribute c.args.dialect c.args.name.now (sym c.is_plain.ensures ∙ c.if-is_plain.true)))
    (two _ _ (codes "@") _ _ _ c.in_ok-push.ensures c.push_name.ensures)

pub returns-in_ok-push-2 : goal.returns-in_ok-push-2
returns-in_ok-push-2 c = same_piece _ _ _ _ _ (sym (odd_attribute c.args.dialect c.args.name.now (sym c.is_plain.ensures ∙ c.if-is_plain.false)))
    (two _ _ (codes "attribute::*") _ _ _ c.in_ok-push-2.ensures c.push_bracket.ensures)
