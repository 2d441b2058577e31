use Rattle.std.proofs.Common.{◌+◌, sym, subst, refl, arith}
use Rattle.text_base.proofs.Boundaries.{past_byte}
use Rattle.css_lexer.specs.inner.Pushing.{EndsAfter}
use Rattle.css_lexer.proofs.lexer.symbol_at.Goals as goal

pub returns-in-Some-clause-ends : goal.returns-in-Some-clause-ends
returns-in-Some-clause-ends c =
    let kind = c.in-Some.ensures in
    let second = c.byte_at.ensures in
    subst (EndsAfter c.args.text.now c.args.at) (sym c.plain_token.ensures)
    (record { moves = omega arith; place = past_byte c.args.text.now (c.args.at + 1) _ c.utf8.text (omega arith) (omega arith) (omega arith) })

pub returns-in-Some-kind_of_one-clause-ends : goal.returns-in-Some-kind_of_one-clause-ends
returns-in-Some-kind_of_one-clause-ends c =
    let kind = c.in-Some-kind_of_one.ensures in
    let first = c.byte_at-byte.ensures in
    subst (EndsAfter c.args.text.now c.args.at) (sym c.plain_token-in-Some-kind_of_one.ensures)
    (record { moves = omega arith; place = past_byte c.args.text.now c.args.at _ c.utf8.text refl (omega arith) (omega arith) })
