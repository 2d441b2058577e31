use Rattle.std.proofs.Common.{◌≡◌, sym, ◌∙◌, subst, true, ◌≤◌}
use Rattle.std.specs.Prelude.{not}
use Rattle.std.proofs.lemmas.Bool.{and_parts}
use Rattle.doc_model.specs.Document.{below, is_attribute}
use Rattle.xpath_eval.specs.inner.Contexts.{AddsNothing}
use Rattle.xpath_eval.proofs.Covering as covering
use Rattle.xpath_eval.proofs.contexts.adds_nothing.Goals as goal

pub returns-in-Descendant : goal.returns-in-Descendant
returns-in-Descendant g c = λ told.
    let doc = g.T.Tree.document c.args.tree.now in
    let two : (below doc c.args.z c.args.x ≡ true) × (not (is_attribute doc c.args.x) ≡ true) = and_parts _ _ (sym c.is_within.ensures ∙ told) in
    subst (λ a. AddsNothing doc a c.args.z c.args.x) (sym c.in-Descendant.is) (covering.down doc c.args.x c.args.z (g.met.T.Tree.is_document c.args.tree.now) two.0)

pub returns-in-DescendantOrSelf : goal.returns-in-DescendantOrSelf
returns-in-DescendantOrSelf g c = λ told.
    let doc = g.T.Tree.document c.args.tree.now in
    let two : (below doc c.args.z c.args.x ≡ true) × (not (is_attribute doc c.args.x) ≡ true) = and_parts _ _ (sym c.is_within-in-DescendantOrSelf.ensures ∙ told) in
    subst (λ a. AddsNothing doc a c.args.z c.args.x) (sym c.in-DescendantOrSelf.is)
    (covering.down_or_self doc c.args.x c.args.z (g.met.T.Tree.is_document c.args.tree.now) two.0 (covering.was_false _ two.1))

pub returns-in-Following : goal.returns-in-Following
returns-in-Following g c = λ told.
    let doc = g.T.Tree.document c.args.tree.now in
    let le : c.end.result ≤ c.end-in-Following.result = covering.told_le _ _ told in
    subst (λ a. AddsNothing doc a c.args.z c.args.x) (sym c.in-Following.is)
    (covering.follows doc c.args.x c.args.z c.end-in-Following.result c.end.result (g.met.T.Tree.is_document c.args.tree.now) c.end-in-Following.ensures c.end.ensures le)

pub returns-in-Preceding : goal.returns-in-Preceding
returns-in-Preceding g c = λ told.
    let doc = g.T.Tree.document c.args.tree.now in
    subst (λ a. AddsNothing doc a c.args.z c.args.x) (sym c.in-Preceding.is)
    (covering.precedes doc c.args.x c.args.z (g.met.T.Tree.is_document c.args.tree.now) (covering.told_le _ _ told) c.requires.row)
