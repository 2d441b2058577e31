use Rattle.std.proofs.Common.{arith}
use Rattle.text_base.proofs.Boundaries.{past_byte}
use Rattle.html_reader.proofs.contents.past_newline.Goals as goal

pub part-requires-clause-start : goal.part-requires-clause-start
part-requires-clause-start c = past_byte c.args.text.now 0 1 c.utf8.text (omega arith) (omega (arith, c.byte_at.ensures, c.if-byte_at-eq10.true)) (omega (arith, c.byte_at.ensures, c.if-byte_at-eq10.true))
