use Rattle.std.proofs.Common.{◌∙◌}
use Rattle.std.proofs.lemmas.Str.Pattern.{starts_text}
use Rattle.text_base.proofs.ByteParts.{starts_chars}
use Rattle.text_base.proofs.TextTests.{std_starts}
use Rattle.text_base.proofs.containing.begins.Goals as goal

pub returns : goal.returns
returns c =
    starts_text c.starts_with.result c.args.start.now c.args.text.now c.starts_with.ensures.cases
    ∙ std_starts c.args.text.now c.args.start.now ∙ starts_chars c.args.text.now c.args.start.now c.utf8.text c.utf8.start
