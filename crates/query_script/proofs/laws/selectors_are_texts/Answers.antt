use Rattle.query_script.proofs.OrderedLemmas.{selector_utf8, field_selector_utf8}
use Rattle.query_script.proofs.laws.selectors_are_texts.Goals as goal

pub returns-clause-of_script : goal.returns-clause-of_script
returns-clause-of_script c = selector_utf8

pub returns-clause-of_field : goal.returns-clause-of_field
returns-clause-of_field c = field_selector_utf8
