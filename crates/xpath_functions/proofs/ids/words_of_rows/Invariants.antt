use Rattle.std.proofs.Common.{◌≡◌, take, flat_map}
use Rattle.doc_model.specs.StringValue.{string_value}
use Rattle.xpath_values.specs.Strings.{words}
use Rattle.xpath_functions.proofs.ids.words_of_rows.Given as goal

abbrev pub invariant-loop-x : goal.invariant-loop-x
invariant-loop-x g l = l.words ≡ flat_map (λ x. words (string_value (g.T.Tree.document l.tree) x)) (take l.x-index l.rows)
