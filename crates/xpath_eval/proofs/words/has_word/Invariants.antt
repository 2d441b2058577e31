use Rattle.std.proofs.Common.{◌≡◌, ◌-◌, ◌<◌, false, length, drop, get_or}
use Rattle.std.specs.Str.{chars}
use Rattle.text_base.specs.Strings.{is_among}
use Rattle.text_base.specs.Text.{is_space4}
use Rattle.text_base.specs.Words.{words_by}
use Rattle.xpath_values.specs.Strings.{words}
use Rattle.xpath_eval.proofs.words.has_word.Given as goal

abbrev pub invariant-loop-at : goal.invariant-loop-at
invariant-loop-at l = record {
  word : l.at < length l.text → is_space4 (get_or l.text l.at 0) ≡ false;
  rest : is_among l.word (words_by is_space4 (drop l.at l.text)) ≡ is_among (chars l.word) (words (chars l.text));
}

abbrev pub decreases-loop-at : goal.decreases-loop-at
decreases-loop-at l = length l.text - l.at
