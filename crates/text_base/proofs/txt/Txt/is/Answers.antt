use Rattle.std.proofs.Common.{sym, ◌∙◌, ap}
use Rattle.std.specs.Str.{chars}
use Rattle.std.proofs.lemmas.Slice.Eq.{bytes_eq-Decides}
use Rattle.text_base.proofs.Text.{same_bytes}
use Rattle.text_base.proofs.txt.Txt.is.Goals as goal

pub returns : goal.returns
returns c =
    let test = bytes_eq-Decides c.as_str.result.now c.args.text.now in (
      λ h. sym c.as_str.ensures.chars ∙ ap chars (test.0 (sym c.eq.ensures ∙ h)),
      λ e. c.eq.ensures ∙ test.1 (same_bytes c.as_str.result.now c.args.text.now c.as_str.utf8 c.utf8.text (c.as_str.ensures.chars ∙ e)),
    )
