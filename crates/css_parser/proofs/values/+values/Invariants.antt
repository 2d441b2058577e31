use Rattle.std.proofs.Common.{◌≡◌, ◌++◌, ◌-◌, ◌≤◌, length, take, map, flat_map}
use Rattle.css_parser.specs.Values.{form_simples, compound_of, compounds_in, part_of, relative_of}
use Rattle.css_parser.proofs.values.+values.Given as goal

abbrev pub invariant-simples_of-loop-at : goal.invariant-simples_of-loop-at
invariant-simples_of-loop-at l = record {
  within : l.at ≤ length l.forms;
  so_far : l.simples ≡ flat_map form_simples (take l.at l.forms);
}

abbrev pub decreases-simples_of-loop-at : goal.decreases-simples_of-loop-at
decreases-simples_of-loop-at l = length l.forms - l.at

abbrev pub invariant-push_compounds-loop-at : goal.invariant-push_compounds-loop-at
invariant-push_compounds-loop-at l = record {
  within : l.at ≤ length l.inners;
  so_far : l.compounds ≡ l.fn.compounds ++ map compound_of (take l.at l.inners);
}

abbrev pub decreases-push_compounds-loop-at : goal.decreases-push_compounds-loop-at
decreases-push_compounds-loop-at l = length l.inners - l.at

abbrev pub invariant-compounds_of-loop-at : goal.invariant-compounds_of-loop-at
invariant-compounds_of-loop-at l = record {
  within : l.at ≤ length l.members;
  so_far : l.compounds ≡ flat_map compounds_in (take l.at l.members);
}

abbrev pub decreases-compounds_of-loop-at : goal.decreases-compounds_of-loop-at
decreases-compounds_of-loop-at l = length l.members - l.at

abbrev pub invariant-parts_of-loop-at : goal.invariant-parts_of-loop-at
invariant-parts_of-loop-at l = record {
  within : l.at ≤ length l.inners;
  so_far : l.parts ≡ map part_of (take l.at l.inners);
}

abbrev pub decreases-parts_of-loop-at : goal.decreases-parts_of-loop-at
decreases-parts_of-loop-at l = length l.inners - l.at

abbrev pub invariant-relatives_of-loop-at : goal.invariant-relatives_of-loop-at
invariant-relatives_of-loop-at l = record {
  within : l.at ≤ length l.members;
  so_far : l.relatives ≡ map relative_of (take l.at l.members);
}

abbrev pub decreases-relatives_of-loop-at : goal.decreases-relatives_of-loop-at
decreases-relatives_of-loop-at l = length l.members - l.at
