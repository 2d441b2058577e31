use Rattle.std.proofs.Common.{refl, arith}
use Rattle.text_base.proofs.Boundaries.{past_byte}
use Rattle.css_lexer.proofs.lexer.read_hash.Goals as goal

pub read_content-requires-clause-place : goal.read_content-requires-clause-place
read_content-requires-clause-place c = past_byte c.args.text.now c.args.at _ c.utf8.text refl (omega arith) (omega arith)
