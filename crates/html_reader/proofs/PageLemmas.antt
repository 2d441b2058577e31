-- Tokens build one document, or are refused at one place.
use Rattle.std.proofs.Common.{◌≡◌, List, [], ◌∷◌, ◌++◌, length, Bool, true, false, sym, refl, ◌∙◌, ap, subst, arith, Option, Some, None, append-nil}
use Rattle.text_base.specs.declared.reasons.PageReason.{PageReason}
use Rattle.text_base.specs.declared.reasons.PageReason.TheVariants.{StrayEnd, Unclosed, TextOutside, SecondRoot, NoRoot, Deep}
use Rattle.html_reader.specs.Tokens.{Tag, Tok, starts, ends, holds, Mark, token, shut}
use Rattle.html_reader.specs.Places.{Place, place_marks, place_grown, all_rows, open_tags, root_at, most_open}
use Rattle.html_reader.specs.declared.reader.Root.{Root}
use Rattle.html_reader.specs.Words.{tokens_of, begins_shut}
use Rattle.doc_model.specs.Document.{Row}
use Rattle.html_reader.specs.Reading.{Leads, Refuses, RefusesNext, Builds}
use Rattle.html_reader.proofs.PlaceLemmas.{puts, start, puts_place, one_place}
use Rattle.html_reader.proofs.WordLemmas.{word_front, went}
use Rattle.html_reader.proofs.FitLemmas.{fits_front, not_refused}

pub tokens_of-append : (v w : List Mark) → tokens_of (v ++ w) ≡ tokens_of v ++ tokens_of w
tokens_of-append [] w = refl
tokens_of-append (shut ∷ v) w = tokens_of-append v w
tokens_of-append (token t ∷ v) w = ap (λ x. t ∷ x) (tokens_of-append v w)

same_front : (a b c : List Tok) → a ++ b ≡ a ++ c → b ≡ c
same_front [] b c e = e
same_front (t ∷ a) b c e = same_front a b c (tail e)
  where
    tail : {x y : Tok} {v w : List Tok} → x ∷ v ≡ y ∷ w → v ≡ w
    tail e = cc

pub tail_tokens : (before ts : List Tok) (p q : Place) (tail : List Mark) → tokens_of (place_marks p) ≡ before → tokens_of (place_marks q) ≡ before ++ ts → place_marks q ≡ place_marks p ++ tail → tokens_of tail ≡ ts
tail_tokens before ts p q tail e f is =
    same_front before (tokens_of tail) ts
    (ap (λ x. x ++ tokens_of tail) (sym e) ∙ sym (tokens_of-append (place_marks p) tail) ∙ ap tokens_of (sym is) ∙ f)

pub no_more : (w : List Mark) → tokens_of w ≡ [] → begins_shut w ≡ false → w ≡ []
no_more [] h k = refl
no_more (shut ∷ w) h k = cc
no_more (token t ∷ w) h k = cc

-- these tokens lead to one place
pub one_lead : {made : Bool} (tokens : List Tok) (next : Option Tok) (p q : Place) → Leads made tokens next p → Leads made tokens next q → p ≡ q
one_lead {made} tokens next p q h k =
    let rest = word_front tokens [] next p q h (subst (λ x. Leads made x next q) (sym (append-nil tokens)) k) in
    let none = no_more rest.tail (tail_tokens tokens [] p q rest.tail h.spelled (k.spelled ∙ sym (append-nil tokens)) rest.is) rest.ready in
    one_place p q (sym (append-nil (place_marks p)) ∙ ap (λ x. place_marks p ++ x) (sym none) ∙ sym rest.is)

-- tokens build one document
pub one_document : {made : Bool} (tokens : List Tok) (rows other : List Row) → Builds made tokens rows → Builds made tokens other → rows ≡ other
one_document {made} tokens rows other h k =
    sym h.rows_are ∙ ap (λ p. all_rows (place_grown made p)) (one_lead tokens None h.place k.place h.leads k.leads) ∙ k.rows_are

-- what begins with a token
pub record Begins (t : Tok) (w : List Mark) : Type 0 where
  pub rest : List Mark
  pub is : w ≡ token t ∷ rest

pub begins : (t : Tok) (ts : List Tok) (w : List Mark) → tokens_of w ≡ t ∷ ts → begins_shut w ≡ false → Begins t w
begins t ts [] h k = cc
begins t ts (shut ∷ w) h k = cc
begins t ts (token u ∷ w) h k = record { rest = w; is = ap (λ x. token x ∷ w) (head h) }
  where
    head : {x y : Tok} {v w : List Tok} → x ∷ v ≡ y ∷ w → x ≡ y
    head e = cc

-- where a token is refused, no place is reached with it
pub refused_stops : {made : Bool} (before ts : List Tok) (t : Tok) (reason : PageReason) (after : Option Tok) (q : Place) → Refuses made before (Some t) reason → Leads made (before ++ t ∷ ts) after q → ⊥
refused_stops {made} before ts t reason after q h k =
    let p = h.place in
    let rest = word_front before (t ∷ ts) after p q h.leads k in
    let more = begins t ts rest.tail (tail_tokens before (t ∷ ts) p q rest.tail h.leads.spelled k.spelled rest.is) rest.ready in
    let goes : puts p (token t ∷ more.rest) ≡ Some q =
    sym (puts_place p (token t ∷ more.rest)) ∙ ap (λ w. puts start (place_marks p ++ w)) (sym more.is) ∙ ap (puts start) (sym rest.is ∙ sym (append-nil (place_marks q))) ∙ puts_place q [] in
    let x = went p (token t) more.rest q goes in
    not_refused made p x.place t reason x.is (fits_front made x.place more.rest q x.rest k.fits) h.refused

-- never both
pub never_both : {made : Bool} (before ts : List Tok) (t : Tok) (reason : PageReason) (rows : List Row) → Refuses made before (Some t) reason → Builds made (before ++ t ∷ ts) rows → ⊥
never_both before ts t reason rows h k = refused_stops before ts t reason None k.place h k.leads

pub not_deep : (made : Bool) → 0 ≡ most_open made → ⊥
not_deep true e = omega (arith, e)
not_deep false e = omega (arith, e)

-- a token has one refusal
pub one_reason : (tags : List Tag) (rooted : Root) (next : Option Tok) (a b : PageReason) → RefusesNext tags rooted next a → RefusesNext tags rooted next b → a ≡ b
one_reason tags rooted (Some (starts tag)) SecondRoot SecondRoot h k = refl
one_reason tags rooted (Some (starts tag)) SecondRoot Deep h k = absurd (not_deep rooted.made (sym (ap length h.1) ∙ k))
one_reason tags rooted (Some (starts tag)) Deep SecondRoot h k = absurd (not_deep rooted.made (sym (ap length k.1) ∙ h))
one_reason tags rooted (Some (starts tag)) Deep Deep h k = refl
one_reason tags rooted (Some (ends name)) StrayEnd StrayEnd h k = refl
one_reason tags rooted (Some (holds leaf)) TextOutside TextOutside h k = refl
one_reason tags rooted None Unclosed Unclosed h k = refl
one_reason tags rooted None Unclosed NoRoot h k = absurd (h k.0)
one_reason tags rooted None NoRoot Unclosed h k = absurd (k h.0)
one_reason tags rooted None NoRoot NoRoot h k = refl
one_reason tags rooted (Some (starts tag)) SecondRoot b h k = absurd k
one_reason tags rooted (Some (starts tag)) Deep b h k = absurd k
one_reason tags rooted (Some (ends name)) StrayEnd b h k = absurd k
one_reason tags rooted (Some (holds leaf)) TextOutside b h k = absurd k
one_reason tags rooted None Unclosed b h k = absurd k
one_reason tags rooted None NoRoot b h k = absurd k
one_reason tags rooted next a b h k = absurd h

pub one_refusal : {made : Bool} (before : List Tok) (next : Option Tok) (a b : PageReason) → Refuses made before next a → Refuses made before next b → a ≡ b
one_refusal {made} before next a b h k =
    let same = one_lead before next h.place k.place h.leads k.leads in
    one_reason (open_tags k.place) (root_at made k.place) next a b (subst (λ p. RefusesNext (open_tags p) (root_at made p) next a) same h.refused) k.refused
