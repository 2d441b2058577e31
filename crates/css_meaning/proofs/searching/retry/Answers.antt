use Rattle.std.proofs.Common.{sym}
use Rattle.css_meaning.proofs.Onward as onward
use Rattle.css_meaning.proofs.SearchSteps as steps
use Rattle.css_meaning.proofs.searching.retry.Goals as goal

pub returns-in-Some : goal.returns-in-Some
returns-in-Some g c = λ d from parts w stuck.
    let doc = g.T.Tree.document c.args.tree.now in
    let s = c.args.search in
    let r = c.backwards.ensures in
    steps.made doc d from parts s c.backwards.result _ _ _ r.at r.sibling r.ancestor
    (onward.to_sibling doc d from parts (g.met.T.Tree.is_document c.args.tree.now) s c.in-Some.row w stuck c.in-Some.ensures)

pub returns-in-None : goal.returns-in-None
returns-in-None g c = λ d from parts w stuck. onward.exhausted (g.T.Tree.document c.args.tree.now) d from parts c.args.search stuck c.in-None.ensures c.if-search-eq0.true

pub returns-in-None-2 : goal.returns-in-None-2
returns-in-None-2 g c = λ d from parts w stuck.
    let doc = g.T.Tree.document c.args.tree.now in
    let s = c.args.search in
    let r = c.upwards.ensures in
    steps.made doc d from parts s c.upwards.result _ _ _ r.at r.sibling r.ancestor
    (onward.to_ancestor doc d from parts (g.met.T.Tree.is_document c.args.tree.now) s c.parent.result w stuck c.in-None.ensures
    (steps.positive s.ancestor.row c.if-search-eq0.false) (sym c.parent.ensures))
