use Rattle.std.specs.Prelude.{◌≡◌, true, drop, map}
use Rattle.html_reader.specs.Tables.{is_listed, are_apart}
use Rattle.html_reader.specs.inner.Views.{ending_of}
use Rattle.html_reader.proofs.tables.is_listed.Given as goal

abbrev pub invariant-loop-ending : goal.invariant-loop-ending
invariant-loop-ending l = record {
  same : is_listed (map ending_of (drop l.ending-index l.endings)) l.element l.name ≡ is_listed (map ending_of l.endings) l.element l.name;
  apart : are_apart (map ending_of (drop l.ending-index l.endings)) ≡ true;
}
