use Rattle.std.proofs.Common.{length, drop, ◌-◌, ◌≤◌, ◌≡◌, false, string_bytes}
use Rattle.text_base.specs.Text.{IsPlace}
use Rattle.query_script.specs.inner.Reader.{unquoted}
use Rattle.query_script.proofs.StringLemmas.{onto}
use Rattle.query_script.proofs.strings.unquoted.Given as goal

abbrev pub invariant-loop-at : goal.invariant-loop-at
invariant-loop-at l = record {
  so_far : unquoted l.quote false l.text ≡ onto (string_bytes l.value) (unquoted l.quote false (drop l.at l.text));
  within : l.at ≤ length l.text;
  place : IsPlace l.text l.at;
}

abbrev pub decreases-loop-at : goal.decreases-loop-at
decreases-loop-at l = length l.text - l.at
