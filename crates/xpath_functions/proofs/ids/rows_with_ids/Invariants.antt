use Rattle.std.proofs.Common.{◌≡◌, filter}
use Rattle.std.specs.List.{list_any, range_with_len}
use Rattle.doc_model.specs.Attributes.{has_id}
use Rattle.xpath_parser.specs.Functions.{is_id}
use Rattle.xpath_functions.specs.inner.Sets.{AreLeft}
use Rattle.xpath_functions.proofs.ids.rows_with_ids.Given as goal

abbrev pub invariant-loop-y : goal.invariant-loop-y
invariant-loop-y g l = record {
  found : l.found.items ≡ filter (λ y. list_any (λ w. is_id (g.T.Tree.document l.tree) w y) l.words) (range_with_len 0 l.y);
  left : AreLeft l.left l.words (λ w. list_any (has_id (g.T.Tree.document l.tree) w) (range_with_len 0 l.y));
}
