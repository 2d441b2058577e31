use Rattle.css_printed.proofs.LiteralRuns.{byte_test}
use Rattle.css_translate.proofs.literals.has_byte.Goals as goal

pub returns : goal.returns
returns c = byte_test c.args.byte c.args.text.now c.find_byte.result c.find_byte.ensures.end
