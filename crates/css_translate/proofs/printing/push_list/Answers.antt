use Rattle.std.proofs.Common.{◌≡◌, sym, ap, ◌∙◌, map, rules, ◌∷◌, List}
use Rattle.css_selectors.specs.declared.selector.Selector.{Selector}
use Rattle.css_printed.specs.Printed.{joined, selector_text}
use Rattle.css_translate.proofs.Pushes.{two, same_piece}
use Rattle.css_translate.proofs.Further.{printed_further}
use Rattle.css_translate.proofs.TextLemmas.{read_selectors}
use Rattle.css_translate.proofs.printing.push_list.Goals as goal

pub returns-in_ok-push_selector-in-Some-clause-text : goal.returns-in_ok-push_selector-in-Some-clause-text
returns-in_ok-push_selector-in-Some-clause-text c =
    let cut : c.args.selectors.now ≡ c.in-Some.first.now ∷ c.in-Some.rest.now = search rules in
    same_piece _ _ _ _ _
    (sym (ap (λ (xs : List Selector). joined (map (selector_text c.args.dialect) xs)) cut ∙ printed_further c.args.dialect c.in-Some.first.now c.in-Some.rest.now))
    (two _ _ _ _ _ _ c.in_ok-push_selector-in-Some.ensures.text c.push_further.ensures.text)

pub returns-in_ok-push_selector-in-Some-clause-texts : goal.returns-in_ok-push_selector-in-Some-clause-texts
returns-in_ok-push_selector-in-Some-clause-texts c =
    let cut : c.args.selectors.now ≡ c.in-Some.first.now ∷ c.in-Some.rest.now = search rules in
    read_selectors _ _ _ _ cut c.in_ok-push_selector-in-Some.ensures.texts c.push_further.ensures.texts
