use Rattle.std.proofs.Common.{refl, arith}
use Rattle.html_lexer.proofs.PlainLemmas.{past_bracket}
use Rattle.html_lexer.proofs.steps.doctype_at.Goals as goal

pub returns-then-end-text-clause-cut : goal.returns-then-end-text-clause-cut
returns-then-end-text-clause-cut c =
    let found = c.find_byte-end.ensures in
    (past_bracket c.args.text.now c.args.at c.find_byte-end.result _ c.utf8.text found.end (omega arith) refl, omega arith)
