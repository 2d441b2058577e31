use Rattle.std.proofs.Common.{◌++◌, [], ◌∷◌, ◌∙◌, ap, sym, refl, arith, take, get_or, filter}
use Rattle.std.specs.Prelude.{if◌then◌else◌}
use Rattle.std.proofs.lemmas.List.{take_all}
use Rattle.std.proofs.lemmas.List.Elements.{filter_more}
use Rattle.std.proofs.lemmas.Result.{err_from_is_err_and}
use Rattle.query_chain.proofs.Errors.{moved}
use Rattle.query_chain.specs.Items.{bytes_of}
use Rattle.query_chain.specs.inner.Keeping.{row_meets}
use Rattle.query_chain.proofs.ItemTexts.{row_texts, rows_over, row_bytes_more, item_texts_of_rows}
use Rattle.query_chain.proofs.keep.keep_rows.Goals as goal

pub loop-x-preserved : goal.loop-x-preserved
loop-x-preserved g c =
    let test = row_meets (g.T.Tree.document c.args.tree.now) c.args.kind c.args.other.now in
    let x = get_or c.args.rows.now c.loop-x.x-index 0 in
    let front = take c.loop-x.x-index c.args.rows.now in
    let more = row_bytes_more (g.T.Tree.document c.args.tree.now) c.args.rows.now c.loop-x.x-index c.loop-x-test.true in
    record {
      rows = c.in_ok-push_kept.ensures.rows
          ∙ (ap (λ r. r ++ (if c.in_ok-is_kept.is_kept then x ∷ [] else [])) c.loop-x.invariant.rows
          ∙ (ap (λ b. filter test front ++ (if b then x ∷ [] else [])) c.in_ok-is_kept.ensures.met ∙ sym (filter_more test c.args.rows.now c.loop-x.x-index 0 c.loop-x-test.true)));
      left = omega (arith, more, c.in_ok-is_kept.ensures.left, c.loop-x.invariant.left);
    }

pub returns-clause-rows : goal.returns-clause-rows
returns-clause-rows g c =
    c.loop-x.invariant.rows ∙ ap (filter (row_meets (g.T.Tree.document c.args.tree.now) c.args.kind c.args.other.now)) (take_all c.loop-x.x-index c.args.rows.now c.loop-x-test.false)

pub returns-clause-within : goal.returns-clause-within
returns-clause-within g c =
    let doc = g.T.Tree.document c.args.tree.now in
    let e = ap bytes_of (ap (row_texts doc) (take_all c.loop-x.x-index c.args.rows.now c.loop-x-test.false) ∙ item_texts_of_rows doc c.args.rows.now) in
    omega (arith, e, c.loop-x.invariant.left)

pub returns-in_err-is_kept-clause-output : goal.returns-in_err-is_kept-clause-output
returns-in_err-is_kept-clause-output g c =
    let p = err_from_is_err_and c.from_residual.result c.from_residual.ensures.1 in
    let doc = g.T.Tree.document c.args.tree.now in
    rw (p.1, p.2) (λ e.
    rows_over doc c.args.rows.now c.loop-x.x-index c.loop-x.left c.args.limit (row_texts doc (take c.loop-x.x-index c.args.rows.now)) c.loop-x-test.true refl c.loop-x.invariant.left
    (c.in_err-is_kept.ensures.output (moved _ _ e)))
