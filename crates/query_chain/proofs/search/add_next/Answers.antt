use Rattle.query_chain.proofs.Matching.{next_added}
use Rattle.query_chain.proofs.search.add_next.Goals as goal

pub returns-clause-next : goal.returns-clause-next
returns-clause-next c =
    next_added c.args.limits _ _ _ _ c.args.text.now c.search_start-start.result c.args.after c.args.groups _ c.in-Some.captures _
    c.search_start-start.ensures.start c.search_start-start.ensures.same c.in-Some.ensures.found c.in_ok-add_match.ensures.ok c.get_match.ensures.found c.end.ensures
