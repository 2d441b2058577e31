use Rattle.std.proofs.Common.{◌≡◌, false, sym, ◌∙◌, arith, length}
use Rattle.std.proofs.lemmas.Bool.{and_from, and_left, and_right}
use Rattle.css_meaning.proofs.SiblingWalks.{is_content, skipped, past, before, none_more, none_past, none_passes, one_passes}
use Rattle.css_meaning.proofs.contents.is_empty_element.Goals as goal
use Rattle.css_meaning.proofs.contents.is_empty_element.Goals.{else-is_parent-via-then-is_parent+else-is_content, else-is_parent-via-else-is_parent}

pub loop-y-init : goal.loop-y-init
loop-y-init g c = record {
  behind = omega arith;
  within = omega (arith, c.end-to.ensures.after, c.end-to.ensures.within);
  none = λ z l. and_left _ _ (before (g.T.Tree.document c.args.tree.now) c.args.e z (g.met.T.Tree.is_document c.args.tree.now) (omega arith));
}

pub loop-y-preserved : goal.loop-y-preserved
loop-y-preserved g c =
    let doc = g.T.Tree.document c.args.tree.now in
    let i = c.loop-y.invariant in
    let here : is_content doc c.args.e c.loop-y.y ≡ false = (elim c.else-is_parent.branch [
      | else-is_parent-via-then-is_parent+else-is_content w ↦ and_right _ _ (sym w.is_content.ensures ∙ w.if-is_content.false)
      | else-is_parent-via-else-is_parent w ↦ and_left _ _ (sym c.is_parent.ensures ∙ w.if-is_parent.false)
    ]) in
    record {
      behind = omega (arith, i.behind, c.end-y.ensures.after);
      within = c.end-y.ensures.within;
      none = none_more (is_content doc c.args.e) c.loop-y.y c.end-y.result i.none here
          (λ z p q. and_left _ _ (skipped doc c.args.e c.loop-y.y c.end-y.result z (g.met.T.Tree.is_document c.args.tree.now) c.end-y.ensures i.behind p q));
    }

pub returns-then-is_content : goal.returns-then-is_content
returns-then-is_content g c =
    let doc = g.T.Tree.document c.args.tree.now in
    sym (one_passes (is_content doc c.args.e) (length doc) c.loop-y.y (omega (arith, c.loop-y-test.true, c.end-to.ensures.within))
    (and_from _ _ (sym c.is_parent.ensures ∙ c.if-is_parent.true) (sym c.is_content.ensures ∙ c.if-is_content.true)))

pub returns : goal.returns
returns g c =
    let doc = g.T.Tree.document c.args.tree.now in
    sym (none_passes (is_content doc c.args.e) (length doc) (none_past (is_content doc c.args.e) c.loop-y.y (length doc) c.loop-y.invariant.none
    (λ z p q. and_left _ _ (past doc c.args.e c.end-to.result z (g.met.T.Tree.is_document c.args.tree.now) c.end-to.ensures (omega (arith, c.loop-y-test.false)) q))))
