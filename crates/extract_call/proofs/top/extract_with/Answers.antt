use Rattle.std.proofs.Common.{map, string_bytes}
use Rattle.extract_call.specs.Words.{command_of}
use Rattle.extract_call.proofs.Forms.{bulk_count}
use Rattle.extract_call.proofs.Meaning.{selectors_kept}
use Rattle.extract_call.proofs.top.extract_with.Goals as goal

pub write_form-requires : goal.write_form-requires
write_form-requires g c = λ n e. bulk_count (map string_bytes c.args.words.now) (command_of c.read.result) n c.read.ensures e

pub returns-clause-run : goal.returns-clause-run
returns-clause-run g c = rw (← c.read.ensures) c.write_form.ensures.run

pub returns-clause-meaning : goal.returns-clause-meaning
returns-clause-meaning g c = selectors_kept c.laws_below.ensures c.args.words.now
