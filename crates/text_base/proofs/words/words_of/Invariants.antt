use Rattle.std.proofs.Common.{◌≡◌, ◌-◌, ◌++◌, length, drop, map, encode_utf8_all}
use Rattle.text_base.specs.Text.{IsPlace, is_space4}
use Rattle.text_base.specs.Words.{words_by}
use Rattle.text_base.proofs.words.words_of.Given as goal

abbrev pub invariant-loop-at : goal.invariant-loop-at
invariant-loop-at l = record {
  place : IsPlace l.text l.at;
  so_far : map encode_utf8_all l.found.items ++ words_by is_space4 (drop l.at l.text) ≡ words_by is_space4 l.text;
}

abbrev pub decreases-loop-at : goal.decreases-loop-at
decreases-loop-at l = length l.text - l.at
