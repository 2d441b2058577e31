use Rattle.std.proofs.Common.{◌≡◌, ◌<◌, ◌≤◌, map, length, take}
use Rattle.std.specs.List.{All}
use Rattle.xpath_parser.specs.Typed.{expression}
use Rattle.query_chain.specs.Chains.{step_items}
use Rattle.query_chain.specs.Tasks.{select}
use Rattle.query_chain.specs.Items.{node}
use Rattle.query_chain.proofs.select.select_rows.Given as goal

abbrev pub invariant-loop-x : goal.invariant-loop-x
invariant-loop-x g l = record {
  items : map node l.out.items ≡ step_items (g.S.Tree.document l.source) (select (expression l.query)) (map node (take l.x-index l.rows));
  below : All (λ x. x < length (g.S.Tree.document l.source)) l.out.items;
  few : length l.out.items ≤ l.limits.items;
}
