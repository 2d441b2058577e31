use Rattle.std.proofs.Common.{◌≡◌}
use Rattle.xpath_values.specs.declared.reading.Reading.TheVariants.{Front}
use Rattle.xpath_values.specs.inner.Reading.{after}
use Rattle.xpath_values.proofs.reading.to_number.Given as goal

abbrev pub invariant-loop-c : goal.invariant-loop-c
invariant-loop-c l = l.state ≡ after Front l.yielded
