use Rattle.std.proofs.Common.{◌≡◌, ◌≤◌, ◌<◌, ◌^◌, take, length}
use Rattle.std.specs.List.{list_all}
use Rattle.std.specs.Prelude.{true}
use Rattle.text_base.specs.Text.{is_digit, digits_value}
use Rattle.extract_call.proofs.words.count_of.Given as goal

abbrev pub invariant-loop-byte : goal.invariant-loop-byte
invariant-loop-byte l = record {
  value : l.value ≡ digits_value (take l.byte-index l.bytes);
  digits : list_all is_digit (take l.byte-index l.bytes) ≡ true;
  small : l.value < 10 ^ l.byte-index;
  short : length l.bytes ≤ 5;
  some : 1 ≤ length l.bytes;
  same : l.bytes ≡ l.fn.word;
}
