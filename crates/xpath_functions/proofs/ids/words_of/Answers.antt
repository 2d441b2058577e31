use Rattle.std.specs.Str.{chars}
use Rattle.xpath_values.proofs.Words.{same_words}
use Rattle.xpath_functions.proofs.ids.words_of.Goals as goal

pub returns : goal.returns
returns c = rw (← same_words (chars c.args.text.now)) c.words_of.ensures
