-- Digits and their number.
use Rattle.std.proofs.Common.{◌≡◌, ℕ, ◌+◌, ◌-◌, ◌*◌, ◌<◌, ◌≤◌, List, [], ◌∷◌, length, get_or, take, drop, ◌∙◌, ap, arith}
use Rattle.std.specs.Prelude.{min, slice_range}
use Rattle.std.proofs.lemmas.Grind.{fold-append}
use Rattle.std.proofs.lemmas.List.Edits.{between_more}
use Rattle.text_base.specs.Text.{digits_value}
use Rattle.css_selectors.specs.WellMade.{most_number}
use Rattle.css_parser.specs.Nth.{size}

none_between : (s : List ℕ) (i : ℕ) → slice_range s i i ≡ []
none_between s i = ap (λ n. take n (drop i s)) (let e : i - i ≡ 0 = omega arith in e)

pub no_digits : (s : List ℕ) (i : ℕ) → size s i i ≡ 0
unfolding size
no_digits s i = let e = ap digits_value (none_between s i) in omega (arith, e)

pub one_digit : (s : List ℕ) (from at value : ℕ) → from ≤ at → at < length s → value ≡ size s from at → min (value * 10 + (get_or s at 0 - 48)) (1 + most_number) ≡ size s from (at + 1)
unfolding size
one_digit s from at value low l e =
    let more : digits_value (slice_range s from (at + 1)) ≡ digits_value (slice_range s from at) * 10 + (get_or s at 0 - 48) =
    ap digits_value (between_more s from at 0 low l) ∙ fold-append (λ n d. n * 10 + (d - 48)) 0 (slice_range s from at) (get_or s at 0 ∷ []) in
    omega arith
