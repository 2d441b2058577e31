use Rattle.std.specs.Prelude.{◌≡◌, ℕ, ◌<◌, false}
use Rattle.std.specs.Str.{chars}
use Rattle.step_index.specs.inner.Tables.{gives_id}
use Rattle.step_index.proofs.ids.walk_id.Given as goal

abbrev pub invariant-loop-z : goal.invariant-loop-z
invariant-loop-z g l = (k : ℕ) → k < l.z → gives_id (g.T.Tree.document l.tree) (chars l.word) k ≡ false
