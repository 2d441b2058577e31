use Rattle.std.proofs.Common.{sym, ◌∙◌, ◌-◌}
use Rattle.css_meaning.proofs.Onward as onward
use Rattle.css_meaning.proofs.SearchSteps as steps
use Rattle.css_meaning.proofs.searching.advance.Goals as goal

pub returns-in_err-row-in-Next : goal.returns-in_err-row-in-Next
returns-in_err-row-in-Next g c = λ d from parts p w is l held.
    let doc = g.T.Tree.document c.args.tree.now in
    let s = c.args.search in
    rw c.from_residual.ensures (onward.none_next doc d from parts s (s.at.left - 1) p (steps.step_of doc d from parts s p w c.requires.left is) (l ∙ c.in-Next.is) c.in_err-row-in-Next.ensures)

pub returns-in_err-row-in-Later : goal.returns-in_err-row-in-Later
returns-in_err-row-in-Later g c = λ d from parts p w is l held.
    let doc = g.T.Tree.document c.args.tree.now in
    let s = c.args.search in
    rw c.from_residual-in_err-row-in-Later.ensures
    (onward.none_later doc d from parts s (s.at.left - 1) p (steps.step_of doc d from parts s p w c.requires.left is) (l ∙ c.in-Later.is) c.in_err-row-in-Later.ensures)

pub returns-in-First : goal.returns-in-First
returns-in-First g c = λ d from parts p w is l held.
    let doc = g.T.Tree.document c.args.tree.now in
    let s = c.args.search in
    onward.none_first doc d from parts s (s.at.left - 1) p (steps.step_of doc d from parts s p w c.requires.left is) (l ∙ c.in-First.is)

pub returns-in_ok-row-in-Next : goal.returns-in_ok-row-in-Next
returns-in_ok-row-in-Next g c = λ d from parts p w is l held.
    let doc = g.T.Tree.document c.args.tree.now in
    let s = c.args.search in
    onward.on_next doc d from parts (g.met.T.Tree.is_document c.args.tree.now) s (s.at.left - 1) p c.in_ok-row-in-Next.row w
    (steps.step_of doc d from parts s p w c.requires.left is) (l ∙ c.in-Next.is) held c.in_ok-row-in-Next.ensures

pub returns-in_ok-row-in-Later : goal.returns-in_ok-row-in-Later
returns-in_ok-row-in-Later g c = λ d from parts p w is l held.
    let doc = g.T.Tree.document c.args.tree.now in
    let s = c.args.search in
    let r = c.backwards.ensures in
    steps.made doc d from parts s c.backwards.result _ _ _ r.at r.sibling r.ancestor
    (onward.on_later doc d from parts (g.met.T.Tree.is_document c.args.tree.now) s (s.at.left - 1) p c.in_ok-row-in-Later.row w
    (steps.step_of doc d from parts s p w c.requires.left is) (l ∙ c.in-Later.is) held c.in_ok-row-in-Later.ensures)

pub returns-in-Child : goal.returns-in-Child
returns-in-Child g c = λ d from parts p w is l held.
    let doc = g.T.Tree.document c.args.tree.now in
    let s = c.args.search in
    onward.on_child doc d from parts (g.met.T.Tree.is_document c.args.tree.now) s (s.at.left - 1) p c.parent-row.result w
    (steps.step_of doc d from parts s p w c.requires.left is) (l ∙ c.in-Child.is) held (sym c.parent-row.ensures)

pub returns-in-Descendant : goal.returns-in-Descendant
returns-in-Descendant g c = λ d from parts p w is l held.
    let doc = g.T.Tree.document c.args.tree.now in
    let s = c.args.search in
    let r = c.upwards.ensures in
    steps.made doc d from parts s c.upwards.result _ _ _ r.at r.sibling r.ancestor
    (onward.on_descendant doc d from parts (g.met.T.Tree.is_document c.args.tree.now) s (s.at.left - 1) p c.parent.result w
    (steps.step_of doc d from parts s p w c.requires.left is) (l ∙ c.in-Descendant.is) held (sym c.parent.ensures))
