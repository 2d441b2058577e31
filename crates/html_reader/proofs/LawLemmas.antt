-- Tokens build one document, or have one fault.
use Rattle.std.proofs.Common.{◌≡◌, List, [], Bool, true, ◌∙◌, ap, None}
use Rattle.std.proofs.lemmas.Bool.{both_ways}
use Rattle.text_base.specs.declared.reasons.PageReason.{PageReason}
use Rattle.text_base.specs.declared.reasons.PageReason.TheVariants.{Unclosed, NoRoot}
use Rattle.doc_model.specs.Document.{Document}
use Rattle.html_reader.specs.Tokens.{Tag, Tok}
use Rattle.html_reader.specs.Places.{open_tags, is_some, root_at}
use Rattle.html_reader.specs.declared.reader.Root.{Root}
use Rattle.html_reader.specs.Reading.{Builds, Refuses, RefusesNext}
use Rattle.html_reader.specs.Laws.{OneDocument, NeverBoth, OneFault}
use Rattle.html_reader.proofs.PageLemmas.{one_lead, one_document, never_both, one_refusal, refused_stops}

pub document_law : OneDocument
document_law made tokens doc other h k = one_document tokens doc other h k

-- the end is refused only where an element is open or there was no root element
pub end_goes : (tags : List Tag) (rooted : Root) (reason : PageReason) → tags ≡ [] → rooted.some ≡ true → RefusesNext tags rooted None reason → ⊥
end_goes tags rooted Unclosed none some h = h none
end_goes tags rooted NoRoot none some h = both_ways _ h.1 some
end_goes tags rooted reason none some h = h

ends : (made : Bool) (tokens : List Tok) (reason : PageReason) (doc : Document) → Refuses made tokens None reason → Builds made tokens doc → ⊥
ends made tokens reason doc h k =
    let same = one_lead tokens None h.place k.place h.leads k.leads in
    end_goes (open_tags h.place) (root_at made h.place) reason (ap open_tags same ∙ k.closed) (ap (is_some made) same ∙ k.rooted) h.refused

pub both_law : NeverBoth
both_law = (λ made before ts t reason doc. never_both before ts t reason doc, ends)

pub fault_law : OneFault
fault_law = (λ made before next a b h k. one_refusal before next a b h k, λ made before ts t next a b h k. refused_stops before ts t a next k.place h k.leads)
