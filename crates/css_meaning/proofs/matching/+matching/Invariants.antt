use Rattle.std.proofs.Common.{◌≡◌, true, false, take, Some, reverse}
use Rattle.std.specs.List.{list_all, list_any}
use Rattle.css_meaning.specs.Holding.{simple_holds, compound_holds, relative_holds}
use Rattle.css_meaning.specs.inner.Searching.{IsSearch, is_promising, left_of, leads_back}
use Rattle.css_meaning.proofs.SiblingWalks.{NoneTo}
use Rattle.css_meaning.proofs.matching.+matching.Given as goal

abbrev pub invariant-all_hold-loop-simple : goal.invariant-all_hold-loop-simple
invariant-all_hold-loop-simple g l = list_all (λ x. simple_holds (g.T.Tree.document l.tree) l.dialect x l.e) (take l.simple-index l.simples) ≡ true

abbrev pub invariant-any_holds-loop-compound : goal.invariant-any_holds-loop-compound
invariant-any_holds-loop-compound g l = list_any (λ c. compound_holds (g.T.Tree.document l.tree) l.dialect c l.e) (take l.compound-index l.compounds) ≡ false

abbrev pub invariant-one_leads_on-loop-relative : goal.invariant-one_leads_on-loop-relative
invariant-one_leads_on-loop-relative g l = list_any (λ r. relative_holds (g.T.Tree.document l.tree) l.dialect r l.e) (take l.relative-index l.relatives) ≡ false

abbrev pub invariant-leads_on-loop-y : goal.invariant-leads_on-loop-y
invariant-leads_on-loop-y g l = NoneTo (leads_back (g.T.Tree.document l.tree) l.dialect (Some l.e) (reverse l.parts)) l.y

abbrev pub invariant-leads_back-tries : goal.invariant-leads_back-tries
invariant-leads_back-tries g l = record {
  search : IsSearch (g.T.Tree.document l.tree) l.dialect l.from l.parts l.search;
  same : is_promising (g.T.Tree.document l.tree) l.dialect l.from l.parts l.search ≡ leads_back (g.T.Tree.document l.tree) l.dialect l.from (reverse l.parts) l.e;
}

abbrev pub decreases-leads_back-tries : goal.decreases-leads_back-tries
decreases-leads_back-tries g l = left_of (g.T.Tree.document l.tree) l.parts l.search
