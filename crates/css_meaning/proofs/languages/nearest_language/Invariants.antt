use Rattle.std.proofs.Common.{◌≡◌, ℕ, ◌<◌, false, length}
use Rattle.doc_model.proofs.WalkSteps.{IsOver}
use Rattle.css_meaning.specs.Language.{gives_language}
use Rattle.css_meaning.proofs.languages.nearest_language.Given as goal

abbrev pub invariant-loop-y : goal.invariant-loop-y
invariant-loop-y g l = record {
  within : l.y < length (g.T.Tree.document l.tree);
  over : IsOver (g.T.Tree.document l.tree) l.y l.e;
  after : (k : ℕ) → l.y < k → k < length (g.T.Tree.document l.tree) → gives_language (g.T.Tree.document l.tree) l.fn.dialect l.e k ≡ false;
}

abbrev pub decreases-loop-y : goal.decreases-loop-y
decreases-loop-y g l = l.y
