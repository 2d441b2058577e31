use Rattle.std.proofs.Common.{◌∙◌, true, arith}
use Rattle.css_selectors.specs.declared.selector.Link.TheVariants as link
use Rattle.worked_selectors.proofs.Sizes.{part_of_one}
use Rattle.worked_selectors.proofs.specificity.counted.Goals as goal

pub specificity-requires : goal.specificity-requires
specificity-requires c =
    let size = part_of_one link.First c.args.element (record { negated = true; test = c.args.test }) c.from_vec-simples.result c.from_vec-parts.result
    (c.from_vec-simples.ensures ∙ c.in_ok-vec.ensures.items) (c.from_vec-parts.ensures ∙ c.in_ok-vec-2.ensures.items) in
    omega (arith, size, c.requires)
