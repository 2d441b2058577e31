use Rattle.std.proofs.Common.{◌≡◌, ◌<◌, length, get_or, false, sym, ◌∙◌, ap, arith}
use Rattle.text_base.proofs.Boundaries.{run_end_place}
use Rattle.text_base.proofs.Runs.{run_end_stop}
use Rattle.text_base.proofs.kinds.run_end.Goals as goal

pub returns-else-has-clause-boundary : goal.returns-else-has-clause-boundary
returns-else-has-clause-boundary g c =
    let same = c.as_bytes-bytes.ensures.value in
    let fails : g.K.ByteKind.test c.args.kind.now (get_or c.args.text.now c.loop-at.at 0) ≡ false =
    ap (λ t. g.K.ByteKind.test c.args.kind.now (get_or t c.loop-at.at 0)) (sym same) ∙ sym c.has.ensures ∙ c.if-has.false in
    let within : c.loop-at.at < length c.args.text.now = omega (arith, ap length same) in
    run_end_place (g.K.ByteKind.test c.args.kind.now) c.args.text.now c.args.from _ (g.met.K.ByteKind.keeps_characters c.args.kind.now) c.utf8.text c.requires
    (sym (run_end_stop (g.K.ByteKind.test c.args.kind.now) c.args.text.now c.loop-at.at within fails) ∙ c.loop-at.invariant.same)
