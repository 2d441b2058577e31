use Rattle.std.specs.Prelude.{◌≡◌, ◌≤◌, ◌+◌, ◌-◌, ◌*◌, drop}
use Rattle.std.specs.List.{fold}
use Rattle.text_base.specs.Text.{digits_value}
use Rattle.xpath_values.specs.Numbers.{largest_whole}
use Rattle.xpath_parser.proofs.numbers.digits_value.Given as goal

abbrev pub invariant-loop-digit : goal.invariant-loop-digit
invariant-loop-digit l = (l.value ≤ largest_whole) × (fold (λ n d. n * 10 + (d - 48)) l.value (drop l.digit-index l.digits) ≡ digits_value l.digits)
