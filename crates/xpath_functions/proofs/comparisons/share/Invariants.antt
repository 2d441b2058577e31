use Rattle.std.proofs.Common.{◌≡◌, drop}
use Rattle.std.specs.List.{list_any}
use Rattle.doc_model.specs.StringValue.{string_value}
use Rattle.xpath_functions.specs.inner.Sets.{has_text}
use Rattle.xpath_functions.proofs.comparisons.share.Given as goal

abbrev pub invariant-loop-y : goal.invariant-loop-y
invariant-loop-y g l =
    list_any (λ y. has_text l.known (string_value (g.T.Tree.document l.tree) y)) (drop l.y-index l.ys)
    ≡ list_any (λ y. has_text l.known (string_value (g.T.Tree.document l.tree) y)) l.ys
