use Rattle.std.proofs.Common.{◌∙◌}
use Rattle.text_base.proofs.ByteParts.{same_chars}
use Rattle.css_meaning.proofs.texts.is_text.Goals as goal

pub returns : goal.returns
returns c = c.eq.ensures ∙ same_chars c.args.text.now c.args.other.now c.utf8.text c.utf8.other
