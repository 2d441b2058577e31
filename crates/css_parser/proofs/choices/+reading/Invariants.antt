use Rattle.std.proofs.Common.{◌+◌, ◌*◌, ◌-◌, ◌≤◌, length}
use Rattle.css_parser.specs.Choices.{Forms, simple_by}
use Rattle.css_parser.proofs.MemberLemmas.{IsListUpTo, IsJoinedUpTo}
use Rattle.css_parser.proofs.choices.+reading.Given as goal

-- seven for each choice that may still be opened, and the place of the function among those that read one choice
abbrev pub decreases-simple : goal.decreases-simple
decreases-simple a = 7 * a.room

abbrev pub decreases-forms : goal.decreases-forms
decreases-forms a = 7 * a.room + 1

abbrev pub decreases-inner : goal.decreases-inner
decreases-inner a = 7 * a.room + 2

abbrev pub decreases-further : goal.decreases-further
decreases-further a = 7 * a.room + 3

abbrev pub decreases-parts : goal.decreases-parts
decreases-parts a = 7 * a.room + 4

abbrev pub decreases-member : goal.decreases-member
decreases-member a = 7 * a.room + 5

abbrev pub decreases-members : goal.decreases-members
decreases-members a = 7 * a.room + 6

abbrev pub invariant-forms-loop-forms : goal.invariant-forms-loop-forms
invariant-forms-loop-forms l = record {
  order : l.fn.from ≤ l.at;
  within : l.at ≤ length l.tokens;
  reads : Forms (simple_by l.text l.tokens l.room l.within) l.fn.from l.forms l.at;
}

abbrev pub decreases-forms-loop-forms : goal.decreases-forms-loop-forms
decreases-forms-loop-forms l = length l.tokens - l.at

abbrev pub invariant-parts-loop-inners : goal.invariant-parts-loop-inners
invariant-parts-loop-inners l = record {
  order : l.fn.first.end ≤ l.at;
  within : l.at ≤ length l.tokens;
  reads : IsJoinedUpTo l.text l.tokens (simple_by l.text l.tokens l.room l.within) l.fn.first l.inners l.at;
}

abbrev pub decreases-parts-loop-inners : goal.decreases-parts-loop-inners
decreases-parts-loop-inners l = length l.tokens - l.at

abbrev pub invariant-members-loop-found : goal.invariant-members-loop-found
invariant-members-loop-found l = record {
  order : l.fn.from ≤ l.at;
  within : l.at ≤ length l.tokens;
  reads : IsListUpTo l.text l.tokens (simple_by l.text l.tokens l.room l.within) l.word l.fn.from l.found l.at;
}

abbrev pub decreases-members-loop-found : goal.decreases-members-loop-found
decreases-members-loop-found l = length l.tokens - l.at
