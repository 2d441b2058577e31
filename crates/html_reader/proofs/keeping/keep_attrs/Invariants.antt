use Rattle.std.specs.Prelude.{◌≡◌, ◌-◌, length, map}
use Rattle.std.specs.BTreeSet.{contains_text}
use Rattle.html_reader.specs.inner.States.{attr_of}
use Rattle.html_reader.specs.inner.Keeping.{Knows, HasKept}
use Rattle.html_reader.proofs.keeping.keep_attrs.Given as goal

abbrev pub invariant-loop-name : goal.invariant-loop-name
invariant-loop-name l = record {
  same : l.list.text ≡ l.raw;
  knows : Knows (contains_text l.keeping.names) l.keeping.attrs.items l.keeping.known;
  kept : HasKept l.raw l.list.at (map attr_of l.keeping.attrs.items);
}

abbrev pub decreases-loop-name : goal.decreases-loop-name
decreases-loop-name l = length l.list.text - l.list.at
