use Rattle.std.proofs.Common.{sym, ◌∙◌, subst, ◌≤◌, length}
use Rattle.doc_model.specs.RowLists.{AllBelow}
use Rattle.xpath_eval.proofs.Lists.{run_below, run_few}
use Rattle.xpath_eval.proofs.forms.rows_of_nodes.Goals as goal

pub returns-clause-below : goal.returns-clause-below
returns-clause-below g c =
    let doc = g.T.Tree.document c.args.tree.now in
    subst (AllBelow (length doc)) (sym (c.in_ok-from_slice.ensures.items ∙ c.as_slice.ensures ∙ c.nodes-rows.ensures)) (run_below 0 (length doc) _ c.requires)

pub returns-clause-few : goal.returns-clause-few
returns-clause-few g c =
    let doc = g.T.Tree.document c.args.tree.now in
    subst (λ v. length v ≤ length doc) (sym (c.in_ok-from_slice.ensures.items ∙ c.as_slice.ensures ∙ c.nodes-rows.ensures)) (run_few (length doc) _ c.requires)
