use Rattle.std.proofs.Common.{◌∙◌, ap, None, false, ◌+◌}
use Rattle.worked_selectors.proofs.Sizes.{compound_of_one}
use Rattle.worked_selectors.proofs.specificity.compound.Goals as goal

pub returns : goal.returns
returns c =
    compound_of_one None (record { negated = false; test = c.args.test }) c.from_vec-simples.result (c.from_vec-simples.ensures ∙ c.in_ok-vec.ensures.items)
    ∙ ap (λ n. 1 + n) c.requires
