use Rattle.std.proofs.Common.{refl, arith}
use Rattle.text_base.proofs.Boundaries.{past_byte}
use Rattle.css_lexer.proofs.lexer.read_quoted.Goals as goal

pub read_content-requires-clause-place : goal.read_content-requires-clause-place
read_content-requires-clause-place c = past_byte c.args.text.now c.args.at _ c.utf8.text refl (omega arith) (omega arith)

pub returns-then-byte_at-quote-clause-ends : goal.returns-then-byte_at-quote-clause-ends
returns-then-byte_at-quote-clause-ends c =
    let closing = c.byte_at.ensures in
    let order = c.in_ok-read.ensures.order in
    record { moves = omega arith; place = past_byte c.args.text.now c.in_ok-read.read.end _ c.utf8.text refl (omega arith) (omega arith) }
