use Rattle.std.proofs.Common.{sym, ◌∙◌}
use Rattle.query_script.proofs.KeptLemmas.{kept_skips, kept_takes}
use Rattle.query_script.proofs.cuts.written.Goals as goal

pub loop-piece-preserved-then-all_blank : goal.loop-piece-preserved-then-all_blank
loop-piece-preserved-then-all_blank c =
    kept_skips (λ p. p.now) c.args.all.now c.loop-piece.some.items c.loop-piece.piece-index _ c.loop-piece.invariant c.loop-piece-test.true (sym c.all_blank.ensures ∙ c.if-all_blank.true)

pub loop-piece-preserved : goal.loop-piece-preserved
loop-piece-preserved c =
    rw c.in_ok-push.ensures.items (kept_takes (λ p. p.now) c.args.all.now c.loop-piece.some.items c.loop-piece.piece-index _ c.loop-piece.invariant c.loop-piece-test.true (sym c.all_blank.ensures ∙ c.if-all_blank.false))
