use Rattle.text_base.proofs.DecodedTexts.{decoded_texts}
use Rattle.text_base.proofs.laws.decoded_texts.Goals as goal

pub returns : goal.returns
returns c = decoded_texts
