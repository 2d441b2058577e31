use Rattle.std.proofs.Common.{◌≡◌, ◌+◌, ◌<◌, subst}
use Rattle.query_chain.specs.Items.{bytes_of}
use Rattle.page_records.specs.Records.{strings_in}
use Rattle.page_records.proofs.SizeLemmas.{task_bytes, record_sum, none_left, left_at_end}
use Rattle.page_records.proofs.records.run_record.Goals as goal

pub returns-in_default-clause-over : goal.returns-in_default-clause-over
returns-in_default-clause-over g c =
    let doc = g.S.Tree.document c.args.source.now in
    let f = task_bytes doc c.args.row in
    let here = subst (λ v. c.loop-field.rest < bytes_of (strings_in v)) c.in_ok-value.ensures c.in_default.ensures.over in
    λ e. subst (λ n. c.args.left < n) (record_sum doc c.args.fields.now c.args.row)
    (none_left f c.args.fields.now c.loop-field.field-index c.args.left c.loop-field.rest c.field-item.result c.loop-field-test.true c.loop-field.invariant.left
    (subst (λ t. c.loop-field.rest < f t) c.field-item.is here))

pub returns-clause-rest : goal.returns-clause-rest
returns-clause-rest g c =
    let doc = g.S.Tree.document c.args.source.now in
    subst (λ n. c.loop-field.rest + n ≡ c.args.left) (record_sum doc c.args.fields.now c.args.row)
    (left_at_end (task_bytes doc c.args.row) c.args.fields.now c.loop-field.field-index c.args.left c.loop-field.rest c.loop-field-test.false c.loop-field.invariant.left)
