use Rattle.std.proofs.Common.{arith}
use Rattle.std.proofs.lemmas.Int.{ints}
use Rattle.text_base.proofs.characters.positions_below_sum.Goals as goal

pub returns-else-len-le0 : goal.returns-else-len-le0
returns-else-len-le0 c = λ p. let below = c.positions_below.ensures p in
    (λ h. let k = below.0 h in omega (arith, ints), λ h. below.1 (omega (arith, ints)))

pub returns-then-len-le0-2 : goal.returns-then-len-le0-2
returns-then-len-le0-2 c = λ p. let below = c.positions_below-then-len-le0-2.ensures p in
    (λ h. let k = below.0 h in omega (arith, ints), λ h. below.1 (omega (arith, ints)))
