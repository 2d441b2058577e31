-- What the laws of the crates below say.
use Rattle.std.specs.Prelude.{List, ℕ}
use Rattle.css_parser.specs.Laws as selectors
use Rattle.css_translate.specs.AcceptedLaw as accepted
use Rattle.io_edges.specs.Laws as sinks
use Rattle.html_reader.specs.PageLaws as pages
use Rattle.query_script.specs.Laws as fields
use Rattle.page_records.specs.Laws as records

pub record Below : Type 0 where
  -- a text is one list of selectors or has one fault
  pub one_list : selectors.HasOneReading
  pub one_list_fault : selectors.HasOneFault
  pub list_or_fault : selectors.IsListOrFault
  pub some_list : selectors.HasListOrFault
  -- the printed text of a list keeps the list's meaning
  pub keeps_meaning : accepted.AcceptedLaw
  -- a text reads as one list of entries or is refused as a whole
  pub one_script : records.HasOneReading
  pub one_script_fault : records.HasOneFault
  pub read_or_refused : records.IsReadOrRefused
  pub some_script : records.HasReading
  -- the entries of a UTF-8 script can be run, and its selectors are UTF-8
  pub entries_run : records.EntriesRun
  pub selectors_are_texts : records.SelectorsAreTexts
  -- a page builds one document or has one fault
  pub one_document : pages.OnePageDocument
  pub one_page_fault : pages.OnePageFault
  pub page_never_both : pages.NeverBothOfPage
  pub some_page : (page : List ℕ) → pages.PageAnswer page
  -- an entry that can be run has one value on a document, which can be written
  pub one_value : records.OneEntryValue
  pub some_value : records.AnEntryValue
  pub has_form : records.OutcomeHasForm
  -- a text where no block stands reads as fields or is refused as such
  pub some_fields : fields.HasReading
  pub reads_as_fields : records.ReadsAsFields
  pub refused_as_fields : records.IsRefusedAsFields
  -- fields alone have the values and the line that they have as entries
  pub plain_line : records.PlainLine
  pub plain_refusal : records.PlainRefusal
  pub plain_value : records.PlainValue
  -- bytes that are taken in pieces are taken as a whole
  pub takings : sinks.TakingLaw
