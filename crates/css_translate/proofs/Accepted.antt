-- The printed text of an accepted list keeps its meaning.
use Rattle.css_parser.proofs.TextLists.{are_texts}
use Rattle.css_parser.proofs.WellMadeLemmas.{well_made}
use Rattle.css_printed.proofs.Theorem.{printed_law}
use Rattle.css_translate.specs.AcceptedLaw.{AcceptedLaw}

pub accepted_law : AcceptedLaw
accepted_law d text list utf8 accepted short = printed_law d list (well_made text list accepted) (are_texts text list utf8 accepted) short
