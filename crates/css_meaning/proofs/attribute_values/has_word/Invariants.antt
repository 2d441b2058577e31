use Rattle.std.proofs.Common.{◌≡◌, ◌-◌, ◌<◌, false, length, drop, get_or}
use Rattle.std.specs.Str.{chars}
use Rattle.text_base.specs.Strings.{is_among}
use Rattle.text_base.specs.Text.{is_space5}
use Rattle.text_base.specs.Words.{words_by}
use Rattle.css_meaning.specs.Attributes.{word_test}
use Rattle.css_meaning.proofs.attribute_values.has_word.Given as goal

abbrev pub invariant-loop-at : goal.invariant-loop-at
invariant-loop-at l = record {
  word : l.at < length l.value → is_space5 (get_or l.value l.at 0) ≡ false;
  rest : is_among l.wanted (words_by is_space5 (drop l.at l.value)) ≡ word_test (chars l.value) (chars l.wanted);
}

abbrev pub decreases-loop-at : goal.decreases-loop-at
decreases-loop-at l = length l.value - l.at
