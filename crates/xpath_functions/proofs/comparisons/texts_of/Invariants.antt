use Rattle.std.proofs.Common.{◌≡◌, take, map}
use Rattle.doc_model.specs.StringValue.{string_value}
use Rattle.xpath_functions.specs.inner.Texts.{chars_of}
use Rattle.xpath_functions.proofs.comparisons.texts_of.Given as goal

abbrev pub invariant-loop-x : goal.invariant-loop-x
invariant-loop-x g l = map chars_of l.texts.items ≡ map (string_value (g.T.Tree.document l.tree)) (take l.x-index l.rows)
