use Rattle.std.proofs.Common.{◌≡◌, ◌+◌, get_or, true, ap, sym, ◌∙◌}
use Rattle.text_base.specs.Text.{is_letter}
use Rattle.html_lexer.proofs.StepLemmas.{markup_start}
use Rattle.html_lexer.proofs.steps.markup_at.Goals as goal

pub returns-then-is_letter-clause-step : goal.returns-then-is_letter-clause-step
returns-then-is_letter-clause-step c =
    let text = c.args.text.now in
    let letter : is_letter (get_or text (c.args.at + 1) 0) ≡ true = sym (ap is_letter c.byte_at-then-byte_at-eq60.ensures) ∙ sym c.is_letter.ensures ∙ c.if-is_letter.true in
    markup_start text c.args.at c.run_end.result c.start_at.result (sym c.byte_at.ensures ∙ c.if-byte_at-eq60.true) letter c.run_end.ensures.end c.start_at.ensures.step
