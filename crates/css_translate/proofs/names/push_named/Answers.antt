use Rattle.std.proofs.Common.{codes, sym, ◌∙◌}
use Rattle.css_translate.proofs.Pushes.{two, same_piece}
use Rattle.css_printed.proofs.NameCases.{odd_element}
use Rattle.css_translate.proofs.names.push_named.Goals as goal

pub returns-in_ok-push : goal.returns-in_ok-push
returns-in_ok-push c = same_piece _ _ _ _ _ (sym (odd_element c.args.dialect c.args.name.now (sym c.is_plain.ensures ∙ c.if-is_plain.false)))
    (two _ _ (codes "*") _ _ _ c.in_ok-push.ensures c.push_bracket.ensures)
