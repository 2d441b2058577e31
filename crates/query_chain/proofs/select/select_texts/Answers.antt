use Rattle.std.proofs.Common.{◌∙◌, [], ◌∷◌, ap, sym, arith, length, map, encode_utf8_all}
use Rattle.std.proofs.lemmas.Result.{err_from_is_err_and}
use Rattle.std.proofs.lemmas.List.{map-append}
use Rattle.std.proofs.lemmas.List.Sums.{sum_by_push}
use Rattle.xpath_parser.specs.Typed.{expression}
use Rattle.query_chain.specs.Chains.{value_items}
use Rattle.query_chain.specs.Tasks.{select}
use Rattle.query_chain.specs.Items.{text, bytes_of}
use Rattle.query_chain.specs.inner.Values.{is_rows}
use Rattle.query_chain.proofs.Errors.{moved}
use Rattle.query_chain.proofs.Selecting.{row_more, rows_done, texts_over}
use Rattle.query_chain.proofs.Shapes.{typed_rows}
use Rattle.query_chain.proofs.select.select_texts.Goals as goal

pub text_of-requires : goal.text_of-requires
text_of-requires g c = ap is_rows c.in_ok-eval_with.ensures.value ∙ (typed_rows (g.S.Tree.document c.args.source.now) c.args.query.now _ ∙ c.requires.shape)

pub loop-x-preserved : goal.loop-x-preserved
loop-x-preserved g c =
    let doc = g.S.Tree.document c.args.source.now in
    let i = c.loop-x.invariant in
    let old = c.loop-x.out.items in
    let found = c.in_ok-found.found in
    let size = ap bytes_of c.in_ok-next.ensures.items ∙ sum_by_push (λ t. length (encode_utf8_all t)) old found in
    record {
      items = (ap (map text) c.in_ok-next.ensures.items ∙ map-append text old (found ∷ []))
          ∙ row_more doc (select (expression c.args.query.now)) c.args.rows.now c.loop-x.x-index (map text old) (text found ∷ []) c.loop-x-test.true i.items
          (ap value_items (sym c.in_ok-eval_with.ensures.value) ∙ c.in_ok-found.ensures);
      left = let n = c.in_ok-next.ensures.left in let s = i.left in omega (arith, size, n, s);
    }

pub returns-in_err-next-clause-over : goal.returns-in_err-next-clause-over
returns-in_err-next-clause-over g c =
    let p = err_from_is_err_and c.from_residual-in_err-next.result c.from_residual-in_err-next.ensures.1 in
    rw (p.1, p.2) (λ e.
    texts_over (g.S.Tree.document c.args.source.now) (select (expression c.args.query.now)) c.args.rows.now c.loop-x.x-index c.loop-x.left c.args.limits.bytes c.loop-x.out.items c.in_ok-found.found
    c.loop-x-test.true c.loop-x.invariant.items (ap value_items (sym c.in_ok-eval_with.ensures.value) ∙ c.in_ok-found.ensures) c.loop-x.invariant.left (c.in_err-next.ensures.over (moved _ _ e)))

pub returns-clause-items : goal.returns-clause-items
returns-clause-items g c =
    rows_done (g.S.Tree.document c.args.source.now) (select (expression c.args.query.now)) c.args.rows.now c.loop-x.x-index _ c.loop-x-test.false c.loop-x.invariant.items
