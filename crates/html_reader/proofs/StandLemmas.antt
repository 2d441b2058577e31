-- What stands before a place: tokens have one full word, whether one of them is refused or not.
use Rattle.std.proofs.Common.{◌≡◌, Bool, List, [], ◌∷◌, ◌++◌, sym, refl, ◌∙◌, ap, subst, Option, Some, None, append-nil}
use Rattle.text_base.specs.declared.reasons.PageReason.{PageReason}
use Rattle.doc_model.specs.Document.{Document}
use Rattle.html_reader.specs.Tokens.{Tok, token}
use Rattle.html_reader.specs.Places.{Place, place_marks, open_tags, is_some, root_at}
use Rattle.html_reader.specs.Words.{tokens_of, IsFull}
use Rattle.html_reader.specs.Reading.{Leads, Refuses, RefusesNext, Builds}
use Rattle.html_reader.specs.inner.Machine.{State}
use Rattle.html_reader.specs.inner.Taking.{LeadsTo}
use Rattle.html_reader.specs.Pages.{IsRefused}
use Rattle.html_reader.proofs.PlaceLemmas.{puts, start, puts_place, one_place}
use Rattle.html_reader.proofs.WordLemmas.{first, Rest, front_is, there, went}
use Rattle.html_reader.proofs.FitLemmas.{fits_front, not_refused}
use Rattle.html_reader.proofs.PageLemmas.{tail_tokens, no_more, begins, one_reason}
use Rattle.html_reader.proofs.LawLemmas.{end_goes}
use Rattle.html_reader.proofs.StepLemmas.{reach_shuts, reach_leads, shuts_made}

-- a full word up to a token is the front of each full word with these tokens and more
front : (before ts : List Tok) (after : Option Tok) (p q : Place) → tokens_of (place_marks p) ≡ before → IsFull (place_marks p) (first ts after) → tokens_of (place_marks q) ≡ before ++ ts → IsFull (place_marks q) after → Rest (place_marks p) (place_marks q)
front before ts after p q s f t g =
    front_is start (place_marks p) (place_marks q) p q ts after f g refl refl (there p) (there q) (t ∙ ap (λ x. x ++ ts) (sym s))

pub same_place : (tokens : List Tok) (next : Option Tok) (p q : Place) → tokens_of (place_marks p) ≡ tokens → IsFull (place_marks p) next → tokens_of (place_marks q) ≡ tokens → IsFull (place_marks q) next → p ≡ q
same_place tokens next p q s f t g =
    let more : tokens_of (place_marks q) ≡ tokens ++ [] = t ∙ sym (append-nil tokens) in
    let rest = front tokens [] next p q s f more g in
    let none = no_more rest.tail (tail_tokens tokens [] p q rest.tail s more rest.is) rest.ready in
    one_place p q (sym (append-nil (place_marks p)) ∙ ap (λ x. place_marks p ++ x) (sym none) ∙ sym rest.is)

-- where a token is refused, no place without a refused token is reached with it
pub stops : {made : Bool} (before ts : List Tok) (t : Tok) (reason : PageReason) (after : Option Tok) (q : Place) → IsRefused made before (Some t) reason → Leads made (before ++ t ∷ ts) after q → ⊥
stops {made} before ts t reason after q h k =
    let p = h.place in
    let rest = front before (t ∷ ts) after p q h.spelled h.full k.spelled k.full in
    let more = begins t ts rest.tail (tail_tokens before (t ∷ ts) p q rest.tail h.spelled k.spelled rest.is) rest.ready in
    let goes : puts p (token t ∷ more.rest) ≡ Some q =
    sym (puts_place p (token t ∷ more.rest)) ∙ ap (λ w. puts start (place_marks p ++ w)) (sym more.is) ∙ ap (puts start) (sym rest.is ∙ sym (append-nil (place_marks q))) ∙ puts_place q [] in
    let x = went p (token t) more.rest q goes in
    not_refused made p x.place t reason x.is (fits_front made x.place more.rest q x.rest k.fits) h.refused

-- a token, or the end, is refused for one reason
pub same_reason : {made : Bool} (before : List Tok) (next : Option Tok) (a b : PageReason) → IsRefused made before next a → IsRefused made before next b → a ≡ b
same_reason {made} before next a b h k =
    let same = same_place before next h.place k.place h.spelled h.full k.spelled k.full in
    one_reason (open_tags k.place) (root_at made k.place) next a b (subst (λ p. RefusesNext (open_tags p) (root_at made p) next a) same h.refused) k.refused

-- where the end is refused, no document is built
pub end_stops : {made : Bool} (tokens : List Tok) (reason : PageReason) (doc : Document) → IsRefused made tokens None reason → Builds made tokens doc → ⊥
end_stops {made} tokens reason doc h k =
    let same = same_place tokens None h.place k.place h.spelled h.full k.leads.spelled k.leads.full in
    end_goes (open_tags h.place) (root_at made h.place) reason (ap open_tags same ∙ k.closed) (ap (is_some made) same ∙ k.rooted) h.refused

-- the first that is refused is refused
pub refused_of : {made : Bool} (before : List Tok) (next : Option Tok) (reason : PageReason) → Refuses made before next reason → IsRefused made before next reason
refused_of before next reason h = record { place = h.place; spelled = h.leads.spelled; full = h.leads.full; refused = h.refused }

-- the place that tokens lead to
pub led_leads : (tokens : List Tok) (next : Option Tok) (s : State) → LeadsTo tokens s → (p : Place) × Leads s.rooted.made tokens next p
led_leads tokens next s led =
    let r = reach_shuts tokens next s.tags s.rooted s.grown (led next) in
    (r.0.place, subst (λ m. Leads m tokens next r.0.place) (shuts_made next s.tags s.rooted s.grown) (reach_leads tokens next _ r.0 r.1))
