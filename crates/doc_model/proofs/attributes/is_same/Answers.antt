use Rattle.std.proofs.Common.{◌∙◌}
use Rattle.doc_model.proofs.Texts.{same_chars}
use Rattle.doc_model.proofs.attributes.is_same.Goals as goal

pub returns : goal.returns
returns c = c.eq.ensures ∙ same_chars c.args.name.now c.args.other.now c.utf8.name c.utf8.other
