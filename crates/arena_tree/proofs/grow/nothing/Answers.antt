use Rattle.std.proofs.lemmas.Str.{chars-nil}
use Rattle.arena_tree.proofs.grow.nothing.Goals as goal

pub returns : goal.returns
returns c = chars-nil
