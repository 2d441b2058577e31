use Rattle.std.proofs.Common.{◌≡◌, ◌+◌, suc, ap, sym, ◌∙◌, arith}
use Rattle.doc_model.proofs.WalkSteps.{some_of}
use Rattle.css_meaning.specs.inner.SiblingWalks.{is_like}
use Rattle.css_meaning.proofs.SiblingWalks.{count_to, count_start, count_more, count_all}
use Rattle.css_meaning.proofs.siblings.position.Goals as goal

pub loop-y-init : goal.loop-y-init
loop-y-init g c =
    let s = c.span_of-span in
    record {
      from = omega arith;
      within = s.ensures.starts;
      small = omega (arith, s.ensures.behind);
      found = ap suc (sym (count_start (g.T.Tree.document c.args.tree.now) c.args.kind c.args.e s.result.from s.result.to s.ensures));
    }

pub loop-y-preserved : goal.loop-y-preserved
loop-y-preserved g c =
    let doc = g.T.Tree.document c.args.tree.now in
    let s = c.span_of-span in
    let i = c.loop-y.invariant in
    let more : count_to doc c.args.kind c.args.e c.end-y.result ≡ count_to doc c.args.kind c.args.e c.loop-y.y + c.one_if-position.result = count_more doc c.args.kind c.args.e s.result.from s.result.to c.loop-y.y c.end-y.result c.is_like.result c.one_if-position.result
    (g.met.T.Tree.is_document c.args.tree.now) s.ensures i.from c.loop-y-test.true c.end-y.ensures
    (c.is_like.ensures ∙ ap (λ b. is_like doc b c.args.e c.loop-y.y) c.is_by_name-by_name.ensures) c.one_if-position.ensures in
    record {
      from = omega (arith, i.from, c.end-y.ensures.after);
      within = c.end-y.ensures.within;
      small = omega (arith, i.small, c.end-y.ensures.after, some_of c.is_like.result c.one_if-position.result c.one_if-position.ensures);
      found = omega (arith, i.found, more);
    }

pub returns : goal.returns
returns g c =
    c.loop-y.invariant.found
    ∙ count_all (g.T.Tree.document c.args.tree.now) c.args.kind c.args.e c.span_of-span.result.from c.span_of-span.result.to c.loop-y.y c.span_of-span.ensures c.loop-y-test.false c.loop-y.invariant.within
