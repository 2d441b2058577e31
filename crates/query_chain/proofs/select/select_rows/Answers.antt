use Rattle.std.proofs.Common.{◌<◌, ◌∙◌, ap, sym, subst, length, map}
use Rattle.std.specs.List.{All}
use Rattle.std.proofs.lemmas.Result.{err_from_is_err_and}
use Rattle.std.proofs.lemmas.List.{map-append}
use Rattle.std.proofs.lemmas.List.Elements.{All-append}
use Rattle.doc_model.specs.RowLists.{Run}
use Rattle.xpath_parser.specs.Typed.{expression}
use Rattle.query_chain.specs.Chains.{value_items}
use Rattle.query_chain.specs.Tasks.{select}
use Rattle.query_chain.specs.Items.{node}
use Rattle.query_chain.specs.inner.Values.{is_rows}
use Rattle.query_chain.proofs.Errors.{moved}
use Rattle.query_chain.proofs.Selecting.{row_more, rows_done, rows_many, run_below}
use Rattle.query_chain.proofs.Shapes.{typed_rows}
use Rattle.query_chain.proofs.select.select_rows.Goals as goal

pub rows_of-found-requires : goal.rows_of-found-requires
rows_of-found-requires g c = ap is_rows c.in_ok-eval_with.ensures.value ∙ (typed_rows (g.S.Tree.document c.args.source.now) c.args.query.now _ ∙ c.requires.shape)

pub loop-x-preserved : goal.loop-x-preserved
loop-x-preserved g c =
    let doc = g.S.Tree.document c.args.source.now in
    let n = length doc in
    let i = c.loop-x.invariant in
    let old = c.loop-x.out.items in
    let found = c.rows_of-found.result in
    let below : All (λ x. x < n) found = run_below 0 n found (subst (λ xs. Run 0 n xs) (sym c.rows_of-found.ensures.rows) c.in_ok-eval_with.ensures.rows) in
    record {
      items = (ap (map node) c.in_ok-append_rows.ensures.items ∙ map-append node old found)
          ∙ row_more doc (select (expression c.args.query.now)) c.args.rows.now c.loop-x.x-index (map node old) (map node found) c.loop-x-test.true i.items
          (ap value_items (sym c.in_ok-eval_with.ensures.value) ∙ c.rows_of-found.ensures.items);
      below = subst (λ xs. All (λ x. x < n) xs) (sym c.in_ok-append_rows.ensures.items) (All-append (λ x. x < n) old found i.below below);
      few = c.in_ok-append_rows.ensures.few;
    }

pub returns-in_err-append_rows-clause-many : goal.returns-in_err-append_rows-clause-many
returns-in_err-append_rows-clause-many g c =
    let p = err_from_is_err_and c.from_residual-in_err-append_rows.result c.from_residual-in_err-append_rows.ensures.1 in
    rw (p.1, p.2) (λ e.
    rows_many (g.S.Tree.document c.args.source.now) (select (expression c.args.query.now)) c.args.rows.now c.loop-x.x-index c.args.limits.items c.loop-x.out.items c.rows_of-found.result
    c.loop-x-test.true c.loop-x.invariant.items (ap value_items (sym c.in_ok-eval_with.ensures.value) ∙ c.rows_of-found.ensures.items) (c.in_err-append_rows.ensures.many (moved _ _ e)))

pub returns-clause-items : goal.returns-clause-items
returns-clause-items g c =
    rows_done (g.S.Tree.document c.args.source.now) (select (expression c.args.query.now)) c.args.rows.now c.loop-x.x-index _ c.loop-x-test.false c.loop-x.invariant.items
