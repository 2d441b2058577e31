use Rattle.page_records.proofs.EntryTexts.{selector_utf8}
use Rattle.page_records.proofs.laws.selectors_are_texts.Goals as goal

pub returns : goal.returns
returns c = selector_utf8
