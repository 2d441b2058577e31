use Rattle.std.proofs.Common.{◌≡◌, ℕ, ◌<◌, ◌≤◌, ◌-◌, false, length, IsTrue}
use Rattle.doc_model.specs.Document.{is_attribute}
use Rattle.doc_model.specs.Attributes.{is_attribute_of}
use Rattle.doc_model.proofs.attributes.attribute_named.Given as goal

abbrev pub invariant-loop-z : goal.invariant-loop-z
invariant-loop-z g l = record {
  after : l.e < l.z;
  within : l.z ≤ length (g.T.Tree.document l.tree);
  all : l.len ≡ length (g.T.Tree.document l.tree);
  attributes : (k : ℕ) → l.e < k → k < l.z → IsTrue (is_attribute (g.T.Tree.document l.tree) k);
  others : (k : ℕ) → l.e < k → k < l.z → is_attribute_of (g.T.Tree.document l.tree) l.e (g.N.WantedName.wanted l.name) k ≡ false;
}

abbrev pub decreases-loop-z : goal.decreases-loop-z
decreases-loop-z g l = l.len - l.z
