use Rattle.std.proofs.Common.{◌+◌, refl, arith}
use Rattle.text_base.proofs.Boundaries.{past_byte}
use Rattle.text_base.proofs.NewlineLemmas.{past_cr}
use Rattle.text_base.proofs.decoding.push_line.Goals as goal

pub returns-then-byte_at-eq10-clause-place : goal.returns-then-byte_at-eq10-clause-place
returns-then-byte_at-eq10-clause-place c =
    let lf = c.byte_at.ensures in
    past_byte c.args.text.now (c.find_byte-cr.result + 1) _ c.utf8.text (omega arith) (omega arith) (omega arith)

pub returns-else-byte_at-eq10-clause-place : goal.returns-else-byte_at-eq10-clause-place
returns-else-byte_at-eq10-clause-place c = past_cr c.args.text.now c.args.from c.find_byte-cr.result _ c.utf8.text c.find_byte-cr.ensures.end (omega arith) refl
