use Rattle.page_records.proofs.PlainEntries.{plain_line, plain_refusal, plain_value}
use Rattle.page_records.proofs.laws.plain_entries.Goals as goal

pub returns-clause-line : goal.returns-clause-line
returns-clause-line c = plain_line

pub returns-clause-refusal : goal.returns-clause-refusal
returns-clause-refusal c = plain_refusal

pub returns-clause-value : goal.returns-clause-value
returns-clause-value c = plain_value
