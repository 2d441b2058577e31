use Rattle.std.proofs.Common.{◌-◌, ◌≤◌, length}
use Rattle.text_base.specs.Text.{IsPlace}
use Rattle.html_lexer.specs.declared.tags.AttrStep.{AttrStep}
use Rattle.html_lexer.specs.Tags.{TagComesTo}
use Rattle.html_lexer.proofs.tags.tag_end.Given as goal

abbrev pub invariant-loop-attribute : goal.invariant-loop-attribute
invariant-loop-attribute l = record {
  order : l.fn.from ≤ l.at;
  within : l.at ≤ length l.text;
  place : IsPlace l.text l.at;
  comes : (out : AttrStep) → TagComesTo l.text l.at out → TagComesTo l.text l.fn.from out;
}

abbrev pub decreases-loop-attribute : goal.decreases-loop-attribute
decreases-loop-attribute l = length l.text - l.at
