use Rattle.std.proofs.Common.{◌≡◌, false, sym, ◌∙◌, arith, length}
use Rattle.std.proofs.lemmas.Bool.{and_from, and_left, and_right, ne_eqb, eq-eqb, not_from_true, not_from_false}
use Rattle.css_meaning.proofs.SiblingWalks.{is_other, not_like, skipped, past, before, none_more, none_past, none_passes, one_passes}
use Rattle.doc_model.specs.Document.{row}
use Rattle.doc_model.specs.Ends.{IsEnd}
use Rattle.std.proofs.Common.{subst}
use Rattle.css_meaning.proofs.siblings.is_only.Goals as goal
use Rattle.css_meaning.proofs.siblings.is_only.Goals.{else-y-e-via-then-y-e+else-is_like, else-y-e-via-else-y-e}

pub loop-y-init : goal.loop-y-init
loop-y-init g c =
    let doc = g.T.Tree.document c.args.tree.now in
    record {
      behind = omega arith;
      within = omega (arith, c.end-to.ensures.after, c.end-to.ensures.within);
      none = λ z l. and_left _ _ (not_like doc c.args.by_name c.args.e z (before doc (row doc c.args.e).parent z (g.met.T.Tree.is_document c.args.tree.now) (omega (arith, c.parent-parent.ensures))));
    }

pub loop-y-preserved : goal.loop-y-preserved
loop-y-preserved g c =
    let doc = g.T.Tree.document c.args.tree.now in
    let i = c.loop-y.invariant in
    let here : is_other doc c.args.by_name c.args.e c.loop-y.y ≡ false = (elim c.else-y-e.branch [
      | else-y-e-via-then-y-e+else-is_like w ↦ and_left _ _ (sym w.is_like.ensures ∙ w.if-is_like.false)
      | else-y-e-via-else-y-e w ↦ and_right _ _ (not_from_true _ (eq-eqb _ _ w.if-y-e.false))
    ]) in
    record {
      behind = omega (arith, i.behind, c.end-y.ensures.after);
      within = c.end-y.ensures.within;
      none = none_more (is_other doc c.args.by_name c.args.e) c.loop-y.y c.end-y.result i.none here (λ z p q. and_left _ _ (not_like doc c.args.by_name c.args.e z
          (skipped doc (row doc c.args.e).parent c.loop-y.y c.end-y.result z (g.met.T.Tree.is_document c.args.tree.now) c.end-y.ensures (omega (arith, i.behind, c.parent-parent.ensures)) p q)));
    }

pub returns-then-is_like : goal.returns-then-is_like
returns-then-is_like g c =
    let doc = g.T.Tree.document c.args.tree.now in
    sym (one_passes (is_other doc c.args.by_name c.args.e) (length doc) c.loop-y.y (omega (arith, c.loop-y-test.true, c.end-to.ensures.within))
    (and_from _ _ (sym c.is_like.ensures ∙ c.if-is_like.true) (not_from_false _ (ne_eqb c.loop-y.y c.args.e c.if-y-e.true))))

pub returns : goal.returns
returns g c =
    let doc = g.T.Tree.document c.args.tree.now in
    let end : IsEnd doc (row doc c.args.e).parent c.end-to.result = subst (λ v. IsEnd doc v c.end-to.result) c.parent-parent.ensures c.end-to.ensures in
    sym (none_passes (is_other doc c.args.by_name c.args.e) (length doc) (none_past (is_other doc c.args.by_name c.args.e) c.loop-y.y (length doc) c.loop-y.invariant.none
    (λ z p q. and_left _ _ (not_like doc c.args.by_name c.args.e z (past doc (row doc c.args.e).parent c.end-to.result z (g.met.T.Tree.is_document c.args.tree.now) end (omega (arith, c.loop-y-test.false)) q)))))
