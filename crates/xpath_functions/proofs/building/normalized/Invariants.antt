use Rattle.std.proofs.Common.{◌≡◌, string_bytes}
use Rattle.std.specs.Str.{chars}
use Rattle.xpath_functions.specs.inner.Spacing.{start, after}
use Rattle.xpath_functions.proofs.building.normalized.Given as goal

abbrev pub invariant-loop-c : goal.invariant-loop-c
invariant-loop-c l = record {
  text : chars (string_bytes l.out) ≡ (after start l.yielded).text;
  apart : l.apart ≡ (after start l.yielded).apart;
}
