use Rattle.std.proofs.Common.{◌≤◌, ◌++◌, [], ◌∷◌, ◌∙◌, ap, arith, length, encode_utf8_all}
use Rattle.std.proofs.lemmas.List.{take_all}
use Rattle.std.proofs.lemmas.Result.{err_from_is_err_and}
use Rattle.query_chain.proofs.Errors.{moved}
use Rattle.query_chain.specs.Items.{bytes_of}
use Rattle.query_chain.proofs.ItemTexts.{row_texts, rows_over, row_text_more, item_texts_of_rows}
use Rattle.query_chain.proofs.Lists.{left_more}
use Rattle.query_chain.proofs.items.texts_of_rows.Goals as goal

pub loop-x-preserved : goal.loop-x-preserved
loop-x-preserved g c =
    let doc = g.T.Tree.document c.args.tree.now in
    let len = ap length c.as_str.ensures.bytes in
    let fits : length c.as_str.result.now ≤ c.loop-x.left = let k = ap length (ap encode_utf8_all c.in_ok-text.ensures.text) in omega (arith, len, k, c.in_ok-text.ensures.within) in
    record {
      texts = c.in_ok-push.ensures.items ∙ (ap (λ t. c.loop-x.texts.items ++ t ∷ []) c.in_ok-text.ensures.text ∙ row_text_more doc c.args.rows.now c.loop-x.x-index c.loop-x.texts.items c.loop-x-test.true c.loop-x.invariant.texts);
      left = left_more c.loop-x.left c.args.limit (length c.as_str.result.now) c.loop-x.texts.items _ c.in_ok-text.text c.in_ok-push.ensures.items len fits c.loop-x.invariant.left;
    }

pub returns-clause-texts : goal.returns-clause-texts
returns-clause-texts g c =
    let doc = g.T.Tree.document c.args.tree.now in
    c.loop-x.invariant.texts ∙ (ap (row_texts doc) (take_all c.loop-x.x-index c.args.rows.now c.loop-x-test.false) ∙ item_texts_of_rows doc c.args.rows.now)

pub returns-clause-within : goal.returns-clause-within
returns-clause-within g c =
    let doc = g.T.Tree.document c.args.tree.now in
    let e = ap bytes_of (c.loop-x.invariant.texts ∙ (ap (row_texts doc) (take_all c.loop-x.x-index c.args.rows.now c.loop-x-test.false) ∙ item_texts_of_rows doc c.args.rows.now)) in
    omega (arith, e, c.loop-x.invariant.left)

pub returns-in_err-text-clause-output : goal.returns-in_err-text-clause-output
returns-in_err-text-clause-output g c =
    let p = err_from_is_err_and c.from_residual.result c.from_residual.ensures.1 in
    rw (p.1, p.2) (λ e.
    rows_over (g.T.Tree.document c.args.tree.now) c.args.rows.now c.loop-x.x-index c.loop-x.left c.args.limit c.loop-x.texts.items c.loop-x-test.true c.loop-x.invariant.texts c.loop-x.invariant.left
    (c.in_err-text.ensures.output (moved _ _ e)))
