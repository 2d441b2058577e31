-- Positions of characters, by either name.
use Rattle.std.proofs.Common.{◌≡◌, refl, ◌∙◌, ap, ℕ, suc, ◌+◌, Bool, cond, List, [], ◌∷◌, arith}
use Rattle.std.specs.Prelude.{Some, None, ℤ}
use Rattle.text_base.specs.Positions.{at_positions, is_wanted}
use Rattle.xpath_values.specs.declared.value.XNum.TheVariants.{Whole}
use Rattle.xpath_values.specs.Strings.{at_places, substring_from, substring_of}

same_places : (p : ℕ → Bool) (at : ℕ) (cs : List ℕ) → at_positions p at cs ≡ at_places p at cs
same_places p at [] = refl
same_places p at (c ∷ cs) =
    let next : at + 1 ≡ suc at = omega arith in
    let more : at_positions p (at + 1) cs ≡ at_places p (suc at) cs = ap (λ n. at_positions p n cs) next ∙ same_places p (suc at) cs in
    ap (λ r. cond (p at) (c ∷ r) r) more

pub from_position : (s : List ℕ) (a : ℤ) → at_positions (is_wanted a None) 1 s ≡ substring_from s (Whole a)
from_position s a = same_places (is_wanted a None) 1 s

pub of_positions : (s : List ℕ) (a n : ℤ) → at_positions (is_wanted a (Some n)) 1 s ≡ substring_of s (Whole a) (Whole n)
of_positions s a n = same_places (is_wanted a (Some n)) 1 s
