use Rattle.std.proofs.Common.{sym, ◌+◌, ◌∙◌, ap, arith, inl, inr, ◌++◌}
use Rattle.std.proofs.lemmas.Bool.{eqb-true}
use Rattle.text_base.specs.Strings.{starts_with}
use Rattle.css_meaning.specs.inner.TextPlaces.{bytes_from}
use Rattle.css_meaning.proofs.TextPlaces.{bytes_step, bytes_none, starts_ends}
use Rattle.css_meaning.proofs.contents.goes_on.Goals as goal
use Rattle.css_meaning.proofs.contents.goes_on.Goals.{then-loop-y-test+else-not-is_empty, else-loop-y-test}

pub returns-in-None : goal.returns-in-None
returns-in-None g c =
    let doc = g.T.Tree.document c.args.tree.now in
    let rest = bytes_from doc (c.loop-y.y + 1) c.args.to in
    sym (c.loop-y.invariant.same ∙ ap (λ t. starts_with t c.loop-y.left.now) (bytes_step doc c.loop-y.y c.args.to c.loop-y-test.true ∙ ap (λ t. t ++ rest) (sym c.bytes_of.ensures)) ∙ c.in-None.ensures rest)

pub loop-y-preserved : goal.loop-y-preserved
loop-y-preserved g c =
    let doc = g.T.Tree.document c.args.tree.now in
    let rest = bytes_from doc (c.loop-y.y + 1) c.args.to in
    record {
      within = omega (arith, c.loop-y-test.true);
      same = c.loop-y.invariant.same ∙ ap (λ t. starts_with t c.loop-y.left.now) (bytes_step doc c.loop-y.y c.args.to c.loop-y-test.true ∙ ap (λ t. t ++ rest) (sym c.bytes_of.ensures)) ∙ c.in-Some.ensures rest;
    }

pub returns : goal.returns
returns g c =
    let doc = g.T.Tree.document c.args.tree.now in
    c.is_empty-2.ensures
    ∙ starts_ends (bytes_from doc c.loop-y.y c.args.to) c.loop-y.left.now (elim c.loop-y-test.branch [
      | then-loop-y-test+else-not-is_empty w ↦ inr (eqb-true _ _ (sym w.is_empty.ensures ∙ w.if-not-is_empty.false))
      | else-loop-y-test w ↦ inl (bytes_none doc c.loop-y.y c.args.to w.loop-y-test.false)
    ])
    ∙ sym c.loop-y.invariant.same
