use Rattle.std.proofs.Common.{◌<◌, ◌∙◌, ap, sym, subst, arith}
use Rattle.std.proofs.lemmas.List.{take_all}
use Rattle.std.proofs.lemmas.Result.{err_from_is_err_and}
use Rattle.query_chain.proofs.Errors.{moved}
use Rattle.page_records.specs.Records.{records, all_bytes}
use Rattle.page_records.proofs.SizeLemmas.{row_bytes, records_sum, none_left, left_at_end}
use Rattle.page_records.proofs.records.run_records.Goals as goal

pub returns-in_err-values-clause-over : goal.returns-in_err-values-clause-over
returns-in_err-values-clause-over g c =
    let p = err_from_is_err_and c.from_residual.result c.from_residual.ensures.1 in
    let doc = g.S.Tree.document c.args.source.now in
    rw (p.1, p.2) (λ e.
    subst (λ n. c.args.most < n) (records_sum doc c.args.fields.now c.args.rows.now)
    (none_left (row_bytes doc c.args.fields.now) c.args.rows.now c.loop-row.row-index c.args.most c.loop-row.left 0 c.loop-row-test.true c.loop-row.invariant.left
    (c.in_err-values.ensures.over (moved _ _ e))))

pub returns-clause-within : goal.returns-clause-within
returns-clause-within g c =
    let doc = g.S.Tree.document c.args.source.now in
    let tasks = c.args.fields.now in
    let made = ap all_bytes (c.from_vec.ensures ∙ (c.loop-row.invariant.records ∙ ap (records doc tasks) (take_all c.loop-row.row-index c.args.rows.now c.loop-row-test.false)))
    ∙ sym (records_sum doc tasks c.args.rows.now) in
    let left = left_at_end (row_bytes doc tasks) c.args.rows.now c.loop-row.row-index c.args.most c.loop-row.left c.loop-row-test.false c.loop-row.invariant.left in
    omega (arith, made, left)
