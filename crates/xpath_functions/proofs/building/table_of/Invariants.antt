use Rattle.std.proofs.Common.{◌≡◌, ℕ, length, drop}
use Rattle.std.specs.BTreeMap.{get_by}
use Rattle.std.specs.Ordering.{nat_cmp}
use Rattle.std.specs.Str.{chars, IsUtf8}
use Rattle.xpath_functions.specs.inner.Translations.{image_in}
use Rattle.xpath_functions.proofs.building.table_of.Given as goal

abbrev pub invariant-loop-c : goal.invariant-loop-c
invariant-loop-c l = record {
  utf8 : IsUtf8 l.images.rest.now;
  ahead : chars l.images.rest.now ≡ drop (length l.yielded) (chars l.to);
  table : (c : ℕ) → get_by (nat_cmp c) l.table ≡ image_in l.yielded (chars l.to) c;
}
