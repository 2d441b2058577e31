use Rattle.std.proofs.Common.{◌≡◌, ◌<◌, ◌≤◌, ◌-◌, ℕ, true}
use Rattle.doc_model.specs.Document.{is_attribute}
use Rattle.doc_model.proofs.walk_bounds.attributes_end.Given as goal

abbrev pub invariant-loop-e : goal.invariant-loop-e
invariant-loop-e g l = record {
  after : l.x < l.e;
  within : l.e ≤ l.len;
  inside : (y : ℕ) → l.x < y → y < l.e → is_attribute (g.T.Tree.document l.tree) y ≡ true;
}

abbrev pub decreases-loop-e : goal.decreases-loop-e
decreases-loop-e g l = l.len - l.e
