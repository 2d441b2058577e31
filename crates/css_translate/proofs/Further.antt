-- The selectors after the first.
use Rattle.std.proofs.Common.{◌≡◌, List, [], ◌∷◌, ◌++◌, ap, sym, ◌∙◌, append_assoc, append-nil, codes, map}
use Rattle.std.specs.List.{flat_map}
use Rattle.css_selectors.specs.declared.selector.Dialect.{Dialect}
use Rattle.css_selectors.specs.declared.selector.Selector.{Selector}
use Rattle.css_printed.specs.Printed.{joined, selector_text}
use Rattle.css_translate.specs.inner.Pieces.{further_text}

pub printed_further : (d : Dialect) (s : Selector) (ss : List Selector) → joined (map (selector_text d) (s ∷ ss)) ≡ selector_text d s ++ flat_map (further_text d) ss
printed_further d s [] = sym (append-nil (selector_text d s))
printed_further d s (t ∷ ss) = ap (λ x. selector_text d s ++ (codes " | " ++ x)) (printed_further d t ss)
    ∙ ap (λ x. selector_text d s ++ x) (sym (append_assoc (codes " | ") (selector_text d t) (flat_map (further_text d) ss)))
