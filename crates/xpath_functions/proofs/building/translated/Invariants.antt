use Rattle.std.proofs.Common.{◌≡◌, string_bytes}
use Rattle.std.specs.Str.{chars}
use Rattle.xpath_values.specs.Strings.{translated}
use Rattle.xpath_functions.proofs.building.translated.Given as goal

abbrev pub invariant-loop-c : goal.invariant-loop-c
invariant-loop-c l = chars (string_bytes l.out) ≡ translated l.yielded (chars l.from) (chars l.to)
