use Rattle.std.proofs.Common.{arith, sym, ◌∙◌}
use Rattle.query_chain.proofs.Starts.{at_first, after_empty, after_other, after_none}
use Rattle.query_chain.proofs.search.search_start.Goals as goal

pub returns-then-after-eq0-clause-start : goal.returns-then-after-eq0-clause-start
returns-then-after-eq0-clause-start c = at_first _ _ c.args.after c.if-after-eq0.true

pub returns-then-end-clause-start : goal.returns-then-end-clause-start
returns-then-end-clause-start c = after_empty _ _ c.args.after _ (omega (arith, c.if-after-eq0.false)) (sym c.in-Some.ensures.found) (sym c.end.ensures ∙ c.if-end.true)

pub returns-else-end-clause-start : goal.returns-else-end-clause-start
returns-else-end-clause-start c = after_other _ _ c.args.after _ (omega (arith, c.if-after-eq0.false)) (sym c.in-Some.ensures.found) (λ q. c.if-end.false (c.end.ensures ∙ q))

pub returns-in-None-clause-start : goal.returns-in-None-clause-start
returns-in-None-clause-start c = after_none _ _ c.args.after (omega (arith, c.if-after-eq0.false)) (sym c.in-None.ensures.found)
