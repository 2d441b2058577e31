use Rattle.std.proofs.Common.{◌≡◌, drop}
use Rattle.std.specs.Str.{chars}
use Rattle.text_base.specs.Text.{IsPlace}
use Rattle.text_base.proofs.characters.char_place.Given as goal

abbrev pub invariant-loop-left : goal.invariant-loop-left
invariant-loop-left l = record {
  place : IsPlace l.text l.at;
  same : drop l.left (chars (drop l.at l.text)) ≡ drop l.count (chars l.text);
}

abbrev pub decreases-loop-left : goal.decreases-loop-left
decreases-loop-left l = l.left
