use Rattle.css_parser.proofs.SelectingLemmas.{accepted_of}
use Rattle.css_parser.proofs.TextLists.{are_texts}
use Rattle.css_parser.proofs.WellMadeLemmas.{well_made}
use Rattle.css_parser.proofs.parsing.parse_selectors.Goals as goal

pub returns-in-Ok-list_of-clause-well_made : goal.returns-in-Ok-list_of-clause-well_made
returns-in-Ok-list_of-clause-well_made c =
    well_made c.args.text.now _
    (accepted_of c.args.text.now _ _ _ _ _ _ _ c.in-Ok.ensures.lexed c.as_slice.ensures c.in-Ok-list.ensures c.as_slice-2.ensures (c.refusal.ensures, c.in-None.is) c.as_slice-in-None.ensures c.in-Ok-list_of.ensures)

pub returns-in-Ok-list_of-clause-texts : goal.returns-in-Ok-list_of-clause-texts
returns-in-Ok-list_of-clause-texts c =
    are_texts c.args.text.now _ c.utf8.text
    (accepted_of c.args.text.now _ _ _ _ _ _ _ c.in-Ok.ensures.lexed c.as_slice.ensures c.in-Ok-list.ensures c.as_slice-2.ensures (c.refusal.ensures, c.in-None.is) c.as_slice-in-None.ensures c.in-Ok-list_of.ensures)
