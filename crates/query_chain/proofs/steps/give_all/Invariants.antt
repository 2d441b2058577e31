use Rattle.std.proofs.Common.{[], ◌∷◌, ◌≤◌, map, drop, length}
use Rattle.query_chain.specs.Items.{node}
use Rattle.query_chain.specs.inner.Steps.{items_of, action_of, AreIn}
use Rattle.query_chain.proofs.Stepping.{IsOn}
use Rattle.query_chain.proofs.steps.give_all.Given as goal

abbrev pub invariant-loop-step : goal.invariant-loop-step
invariant-loop-step g l = record {
  on : IsOn l.fn.limits (g.S.Tree.document l.source) (node l.fn.x ∷ []) (map action_of l.steps) (items_of l.items) (map action_of (drop l.step-index l.steps));
  within : AreIn (g.S.Tree.document l.source) l.items;
  few : length (items_of l.items) ≤ l.fn.limits.items;
}
