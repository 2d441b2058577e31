use Rattle.html_reader.proofs.FaultLemmas.{one_page_document, one_page_fault, never_both_of_page, page_reasons}
use Rattle.html_reader.proofs.PageReadings.{a_reading}
use Rattle.html_reader.proofs.laws.one_page_reading.Goals as goal

pub returns : goal.returns
returns c = record { document = one_page_document; fault = one_page_fault; apart = never_both_of_page; reasons = page_reasons; either = a_reading }
