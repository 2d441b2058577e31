use Rattle.std.proofs.Common.{◌∙◌}
use Rattle.worked_selectors.proofs.Sizes.{pair}
use Rattle.worked_selectors.proofs.specificity.choice.Goals as goal

pub returns : goal.returns
returns c = pair c.args.weight c.in_ok-y.y c.in_ok-x.x c.from_vec.result (c.from_vec.ensures ∙ c.in_ok-vec.ensures.items) c.in_ok-y.ensures c.in_ok-x.ensures
