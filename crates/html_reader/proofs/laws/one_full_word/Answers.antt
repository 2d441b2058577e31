use Rattle.html_reader.proofs.FaultLemmas.{one_word}
use Rattle.html_reader.proofs.laws.one_full_word.Goals as goal

pub returns : goal.returns
returns c = one_word
