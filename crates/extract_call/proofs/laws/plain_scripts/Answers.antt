use Rattle.extract_call.proofs.PlainLines.{plain_lines, plain_refusals, plain_bulk}
use Rattle.extract_call.proofs.laws.plain_scripts.Goals as goal

pub returns-clause-lines : goal.returns-clause-lines
returns-clause-lines c = plain_lines c.laws_below.ensures

pub returns-clause-refusals : goal.returns-clause-refusals
returns-clause-refusals c = plain_refusals c.laws_below.ensures

pub returns-clause-bulk : goal.returns-clause-bulk
returns-clause-bulk c = plain_bulk c.laws_below.ensures
