use Rattle.std.proofs.Common.{◌≡◌, ◌<◌, ◌≤◌, ◌-◌, ◌+◌}
use Rattle.text_base.specs.Strings.{contains}
use Rattle.css_meaning.specs.inner.TextPlaces.{bytes_from}
use Rattle.css_meaning.proofs.contents.contains_below.Given as goal

abbrev pub invariant-loop-y : goal.invariant-loop-y
invariant-loop-y g l = record {
  after : l.e < l.y;
  within : l.y ≤ l.to;
  same : contains (bytes_from (g.T.Tree.document l.tree) (l.e + 1) l.to) l.wanted ≡ contains (bytes_from (g.T.Tree.document l.tree) l.y l.to) l.wanted;
}

abbrev pub decreases-loop-y : goal.decreases-loop-y
decreases-loop-y g l = l.to - l.y
