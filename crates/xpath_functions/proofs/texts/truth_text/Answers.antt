use Rattle.std.proofs.Common.{sym, ◌∙◌, ap}
use Rattle.xpath_values.specs.Strings.{text_of_bool}
use Rattle.xpath_functions.proofs.Lists.{true_chars, false_chars}
use Rattle.xpath_functions.proofs.texts.truth_text.Goals as goal

pub returns-then-truth : goal.returns-then-truth
returns-then-truth c = true_chars ∙ ap text_of_bool (sym c.if-truth.true)

pub returns-else-truth : goal.returns-else-truth
returns-else-truth c = false_chars ∙ ap text_of_bool (sym c.if-truth.false)
