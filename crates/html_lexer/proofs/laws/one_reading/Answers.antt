use Rattle.html_lexer.proofs.LexLemmas as laws
use Rattle.html_lexer.proofs.laws.one_reading.Goals as goal

pub returns-clause-tokens : goal.returns-clause-tokens
returns-clause-tokens c = laws.one_reading

pub returns-clause-apart : goal.returns-clause-apart
returns-clause-apart c = laws.never_both

pub returns-clause-fault : goal.returns-clause-fault
returns-clause-fault c = laws.one_fault
