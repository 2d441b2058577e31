use Rattle.std.proofs.Common.{map, string_bytes}
use Rattle.extract_call.specs.Plans.{over}
use Rattle.extract_call.proofs.Complete.{nothing_run}
use Rattle.extract_call.proofs.pages.write_pages.Goals as goal

pub returns-in-Err-clause-run : goal.returns-in-Err-clause-run
returns-in-Err-clause-run g c = λ line makes. nothing_run c.laws_below.ensures.takings (over line (map string_bytes c.args.names.now)) _ _
