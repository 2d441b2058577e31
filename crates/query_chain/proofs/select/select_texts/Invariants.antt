use Rattle.std.proofs.Common.{◌≡◌, ◌+◌, map, take}
use Rattle.xpath_parser.specs.Typed.{expression}
use Rattle.query_chain.specs.Chains.{step_items}
use Rattle.query_chain.specs.Tasks.{select}
use Rattle.query_chain.specs.Items.{node, text, bytes_of}
use Rattle.query_chain.proofs.select.select_texts.Given as goal

abbrev pub invariant-loop-x : goal.invariant-loop-x
invariant-loop-x g l = record {
  items : map text l.out.items ≡ step_items (g.S.Tree.document l.source) (select (expression l.query)) (map node (take l.x-index l.rows));
  left : l.left + bytes_of l.out.items ≡ l.fn.limits.bytes;
}
