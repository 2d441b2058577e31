use Rattle.std.proofs.Common.{◌≡◌, ◌≤◌, ◌-◌, length, drop}
use Rattle.css_meaning.specs.inner.TextPlaces.{bytes_from, begins_in}
use Rattle.css_meaning.proofs.contents.begins_within.Given as goal

abbrev pub invariant-loop-at : goal.invariant-loop-at
invariant-loop-at g l = record {
  within : l.at ≤ length l.text;
  same : begins_in l.text (bytes_from (g.T.Tree.document l.tree) l.from l.to) l.wanted ≡ begins_in (drop l.at l.text) (bytes_from (g.T.Tree.document l.tree) l.from l.to) l.wanted;
}

abbrev pub decreases-loop-at : goal.decreases-loop-at
decreases-loop-at g l = length l.text - l.at
