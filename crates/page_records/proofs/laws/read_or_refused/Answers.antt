use Rattle.xpath_parser.proofs.Refused.{never_both_over}
use Rattle.page_records.proofs.OneReading.{one_script}
use Rattle.page_records.proofs.SomeReading.{some_reading}
use Rattle.page_records.proofs.laws.read_or_refused.Goals as goal

pub returns-clause-one_reading : goal.returns-clause-one_reading
returns-clause-one_reading c = λ tests d. one_script tests d never_both_over

pub returns-clause-some : goal.returns-clause-some
returns-clause-some c = some_reading
