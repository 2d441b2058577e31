use Rattle.std.proofs.Common.{◌∙◌}
use Rattle.std.proofs.lemmas.Str.Pattern.{ends_text}
use Rattle.text_base.proofs.ByteParts.{ends_chars}
use Rattle.text_base.proofs.TextTests.{std_ends}
use Rattle.text_base.proofs.containing.ends.Goals as goal

pub returns : goal.returns
returns c =
    ends_text c.ends_with.result c.args.end.now c.args.text.now c.ends_with.ensures.cases
    ∙ std_ends c.args.text.now c.args.end.now ∙ ends_chars c.args.text.now c.args.end.now c.utf8.text c.utf8.end
