use Rattle.std.proofs.Common.{◌≡◌, ◌+◌, ◌<◌, get_or, length, arith, refl, true, ap, sym, ◌∙◌}
use Rattle.text_base.specs.Text.{is_letter}
use Rattle.text_base.proofs.Boundaries.{past_byte, in_text}
use Rattle.html_lexer.proofs.PlainLemmas.{letter_is_name, letter_some}
use Rattle.html_lexer.proofs.steps.end_tag_at.Goals as goal

pub returns-then-byte_at-eq62-clause-cut : goal.returns-then-byte_at-eq62-clause-cut
returns-then-byte_at-eq62-clause-cut c =
    let text = c.args.text.now in
    let name = c.run_end-name_to.ensures in
    let letter : is_letter (get_or text (c.args.at + 2) 0) ≡ true = sym (ap is_letter c.byte_at.ensures) ∙ sym c.is_letter.ensures ∙ c.if-is_letter.true in
    let inside : c.args.at + 2 < length text = in_text text (c.args.at + 2) (letter_some (get_or text (c.args.at + 2) 0) letter) in
    let long = name.moves inside (letter_is_name (get_or text (c.args.at + 2) 0) letter) in
    let close = c.byte_at-then-is_letter.ensures in (
      omega arith,
      c.requires.place,
      name.boundary c.requires.place,
      past_byte _ c.run_end-end.result _ c.utf8.text refl (omega arith) (omega arith),
      omega (arith, name.order, c.run_end-end.ensures.order),
    )
