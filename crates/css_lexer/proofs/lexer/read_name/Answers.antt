use Rattle.std.proofs.Common.{◌<◌, refl, arith}
use Rattle.text_base.proofs.Boundaries.{past_byte}
use Rattle.css_lexer.proofs.SpellLemmas.{ident_moves}
use Rattle.css_lexer.proofs.lexer.read_name.Goals as goal

pub returns-then-byte_at-eq40-clause-ends : goal.returns-then-byte_at-eq40-clause-ends
returns-then-byte_at-eq40-clause-ends c =
    let open_round = c.byte_at.ensures in
    let reads = c.in_ok-read.ensures.reads in
    let moves : c.args.at < c.in_ok-read.read.end = ident_moves c.args.text.now c.args.at _ reads.0 c.requires.within c.requires.ident reads.1 in
    record { moves = omega arith; place = past_byte c.args.text.now c.in_ok-read.read.end _ c.utf8.text refl (omega arith) (omega arith) }

pub returns-else-byte_at-eq40-clause-ends : goal.returns-else-byte_at-eq40-clause-ends
returns-else-byte_at-eq40-clause-ends c =
    let reads = c.in_ok-read.ensures.reads in
    record { moves = ident_moves c.args.text.now c.args.at _ reads.0 c.requires.within c.requires.ident reads.1; place = c.in_ok-read.ensures.place }
