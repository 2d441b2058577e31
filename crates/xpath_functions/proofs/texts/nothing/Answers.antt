use Rattle.std.proofs.lemmas.Str.{chars-nil}
use Rattle.xpath_functions.proofs.texts.nothing.Goals as goal

pub returns : goal.returns
returns c = chars-nil
