use Rattle.std.proofs.Common.{◌≡◌, subst, sym, ◌∙◌, arith, ◌<◌}
use Rattle.doc_model.specs.Document.{row}
use Rattle.doc_model.proofs.Below.{small}
use Rattle.css_meaning.proofs.Earlier.{NoneAfter, found_here, none_under}
use Rattle.css_meaning.proofs.links.earlier_sibling.Goals as goal

pub returns-then-is_element : goal.returns-then-is_element
returns-then-is_element g c =
    let i = c.loop-y.invariant in
    found_here (g.T.Tree.document c.args.tree.now) c.loop-y.y c.args.e (sym c.is_element.ensures ∙ c.if-is_element.true) (omega (arith, c.loop-y-test.true))
    (sym c.parent-above.ensures ∙ (c.if-above-parent.true ∙ i.over)) i.less i.none

pub loop-y-preserved : goal.loop-y-preserved
loop-y-preserved g c =
    let doc = g.T.Tree.document c.args.tree.now in
    let d = g.met.T.Tree.is_document c.args.tree.now in
    let i = c.loop-y.invariant in
    let low : (row doc c.args.e).parent < c.loop-y.y = subst (λ v. v < c.loop-y.y) i.over c.loop-y-test.true in
    let other : (row doc c.loop-y.y).parent ≡ (row doc c.args.e).parent → ⊥ = λ h. c.if-above-parent.false (c.parent-above.ensures ∙ (h ∙ sym i.over)) in
    record {
      over = i.over;
      less = omega (arith, small doc d c.loop-y.y (omega (arith, low)), c.parent-above.ensures, i.less);
      none = subst (λ v. NoneAfter doc v c.args.e) (sym c.parent-above.ensures) (none_under doc c.loop-y.y c.args.e d c.requires low i.less other i.none);
    }
