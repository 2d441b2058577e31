use Rattle.std.proofs.Common.{sym, ◌∙◌, ap, codes}
use Rattle.std.specs.Str.{chars}
use Rattle.text_base.proofs.PartLemmas.{same_means}
use Rattle.xpath_parser.specs.declared.expression.Expr.TheVariants.{Literal}
use Rattle.xpath_eval.proofs.SpacedTexts.{space_chars}
use Rattle.xpath_eval.proofs.words.is_space.Goals as goal

pub returns-in-Literal : goal.returns-in-Literal
returns-in-Literal c = λ h.
    c.in-Literal.is ∙ ap Literal (sym c.as_str.ensures.chars ∙ ap chars ((same_means c.as_str.result.now (codes " ")).0 (sym c.eq.ensures ∙ h)) ∙ space_chars)
