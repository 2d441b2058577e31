use Rattle.std.proofs.Common.{◌≡◌, ◌-◌, ◌<◌, ◌≤◌, length}
use Rattle.std.specs.Prelude.{None}
use Rattle.css_parser.specs.Choices.{simple}
use Rattle.css_parser.specs.Grammar.{IsSelector}
use Rattle.css_parser.proofs.grammar.selector.Given as goal

abbrev pub invariant-loop-compounds : goal.invariant-loop-compounds
invariant-loop-compounds l = record {
  order : l.fn.from < l.at;
  within : l.at ≤ length l.tokens;
  reads : IsSelector l.text l.tokens l.fn.from l.compounds l.at;
  stops : simple l.text l.tokens l.at ≡ None;
}

abbrev pub decreases-loop-compounds : goal.decreases-loop-compounds
decreases-loop-compounds l = length l.tokens - l.at
