use Rattle.std.proofs.Common.{◌≡◌, ◌-◌, ◌≤◌, length, drop}
use Rattle.css_parser.specs.Refusals.{forms_refusal, inners_refusal, members_refusal}
use Rattle.css_parser.proofs.refusals.+refusals.Given as goal

abbrev pub invariant-forms_refusal-loop-at : goal.invariant-forms_refusal-loop-at
invariant-forms_refusal-loop-at l = record {
  within : l.at ≤ length l.forms;
  same : forms_refusal l.nameless l.last (drop l.at l.forms) ≡ forms_refusal l.nameless l.last l.forms;
}

abbrev pub decreases-forms_refusal-loop-at : goal.decreases-forms_refusal-loop-at
decreases-forms_refusal-loop-at l = length l.forms - l.at

abbrev pub invariant-inners_refusal-loop-at : goal.invariant-inners_refusal-loop-at
invariant-inners_refusal-loop-at l = record {
  within : l.at ≤ length l.inners;
  same : inners_refusal l.nameless (drop l.at l.inners) ≡ inners_refusal l.nameless l.inners;
}

abbrev pub decreases-inners_refusal-loop-at : goal.decreases-inners_refusal-loop-at
decreases-inners_refusal-loop-at l = length l.inners - l.at

abbrev pub invariant-members_refusal-loop-at : goal.invariant-members_refusal-loop-at
invariant-members_refusal-loop-at l = record {
  within : l.at ≤ length l.members;
  same : members_refusal l.nameless (drop l.at l.members) ≡ members_refusal l.nameless l.members;
}

abbrev pub decreases-members_refusal-loop-at : goal.decreases-members_refusal-loop-at
decreases-members_refusal-loop-at l = length l.members - l.at
