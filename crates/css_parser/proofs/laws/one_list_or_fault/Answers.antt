use Rattle.css_parser.proofs.Existence.{each_list_or_fault}
use Rattle.css_parser.proofs.SelectingLemmas.{one_reading, list_or_fault}
use Rattle.css_parser.proofs.TextLists.{are_texts}
use Rattle.css_parser.proofs.WellMadeLemmas.{well_made}
use Rattle.css_parser.proofs.laws.one_list_or_fault.Goals as goal

pub returns-clause-one_list : goal.returns-clause-one_list
returns-clause-one_list c = one_reading

pub returns-clause-not_both : goal.returns-clause-not_both
returns-clause-not_both c = list_or_fault

pub returns-clause-well_made : goal.returns-clause-well_made
returns-clause-well_made c = well_made

pub returns-clause-some : goal.returns-clause-some
returns-clause-some c = each_list_or_fault

pub returns-clause-texts : goal.returns-clause-texts
returns-clause-texts c = are_texts
