use Rattle.std.proofs.Common.{sym}
use Rattle.text_base.proofs.Text.{encode-chars}
use Rattle.doc_model.proofs.kept_row.itself.Goals as goal

pub returns-clause-bytes : goal.returns-clause-bytes
returns-clause-bytes c = sym (encode-chars c.args.text.now c.utf8.text)
