use Rattle.std.proofs.Common.{◌≡◌, ◌+◌, length}
use Rattle.std.specs.List.{count_by, after_last}
use Rattle.refusal_texts.specs.Places.{is_newline}
use Rattle.refusal_texts.proofs.places.end_of.Given as goal

abbrev pub invariant-loop-c : goal.invariant-loop-c
invariant-loop-c l = record {
  line : l.line ≡ count_by is_newline l.yielded + 1;
  column : l.column ≡ length (after_last is_newline l.yielded) + 1;
}
