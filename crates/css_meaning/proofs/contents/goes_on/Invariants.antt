use Rattle.std.proofs.Common.{◌≡◌, ◌≤◌, ◌-◌}
use Rattle.text_base.specs.Strings.{starts_with}
use Rattle.css_meaning.specs.inner.TextPlaces.{bytes_from}
use Rattle.css_meaning.proofs.contents.goes_on.Given as goal

abbrev pub invariant-loop-y : goal.invariant-loop-y
invariant-loop-y g l = record {
  within : l.y ≤ l.to;
  same : starts_with (bytes_from (g.T.Tree.document l.tree) l.from l.to) l.wanted ≡ starts_with (bytes_from (g.T.Tree.document l.tree) l.y l.to) l.left;
}

abbrev pub decreases-loop-y : goal.decreases-loop-y
decreases-loop-y g l = l.to - l.y
