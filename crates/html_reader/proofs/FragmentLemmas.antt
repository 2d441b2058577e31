-- Whether a page gets a root, by its first start tag.
use Rattle.std.proofs.Common.{◌≡◌, ℕ, Bool, true, false, List, [], ◌∷◌, ◌++◌, length, sym, refl, ◌∙◌, ap, subst, inl, inr, append_assoc}
use Rattle.std.specs.Prelude.{not, codes}
use Rattle.std.specs.Str.{bytes_eq, str_to_ascii_lowercase, str_eq_ignore_ascii_case}
use Rattle.text_base.specs.declared.reasons.PageReason.{PageReason}
use Rattle.html_lexer.specs.declared.steps.Step.TheVariants.{Fails}
use Rattle.html_lexer.specs.Steps.{StepAt}
use Rattle.html_lexer.specs.State.{Reading}
use Rattle.html_lexer.specs.Tokens.{Tok as Lexed, start_tok, end_tok, text_tok, comment_tok, doctype_tok, end_of, name_after, last_name}
use Rattle.html_lexer.specs.Lexing.{Begins}
use Rattle.html_lexer.proofs.LexLemmas.{last_push}
use Rattle.html_reader.specs.Tokens.{Tag, Tok, starts, ends, holds}
use Rattle.html_reader.specs.Reading.{is_fragment}
use Rattle.html_reader.specs.Contents.{kept}
use Rattle.html_reader.specs.inner.Keeping.{is_start}
use Rattle.html_reader.specs.Pages.{Means, Spells, Whole, IsMade}
use Rattle.html_reader.proofs.FaultLemmas.{not_stopped}
use Rattle.html_reader.proofs.PageReadings.{some_whole}
use Rattle.html_reader.proofs.SpellLemmas.{Meets, even, less, more, spellings, some_meaning, spells_none, spells_push}

abbrev pub no_start : List Tok → Bool
no_start [] = true
no_start (starts tag ∷ ts) = false
no_start (ends name ∷ ts) = no_start ts
no_start (holds leaf ∷ ts) = no_start ts

none_fragment : (ts : List Tok) → no_start ts ≡ true → is_fragment ts ≡ true
none_fragment [] h = refl
none_fragment (starts tag ∷ ts) h = cc
none_fragment (ends name ∷ ts) h = none_fragment ts h
none_fragment (holds leaf ∷ ts) h = none_fragment ts h

first_fragment : (ts us : List Tok) (tag : Tag) → no_start ts ≡ true → is_fragment (ts ++ starts tag ∷ us) ≡ not (bytes_eq tag.name (codes "html"))
first_fragment [] us tag h = refl
first_fragment (starts t ∷ ts) us tag h = cc
first_fragment (ends name ∷ ts) us tag h = first_fragment ts us tag h
first_fragment (holds leaf ∷ ts) us tag h = first_fragment ts us tag h

none_push : (ts : List Tok) (t : Tok) → no_start ts ≡ true → no_start (t ∷ []) ≡ true → no_start (ts ++ t ∷ []) ≡ true
none_push [] t h k = k
none_push (starts tag ∷ ts) t h k = cc
none_push (ends name ∷ ts) t h k = none_push ts t h k
none_push (holds leaf ∷ ts) t h k = none_push ts t h k

-- the lexer has read tokens of the page, and none of them is a start tag
pub record IsLooking (page : List ℕ) (r : Reading) : Type 0 where
  pub same : r.text ≡ page
  pub tokens : List Tok
  pub spelled : Spells page r.at tokens
  pub named : r.name ≡ last_name [] spelled.read
  pub none : no_start tokens ≡ true

pub looks_first : (page : List ℕ) (r : Reading) → r ≡ record { text = page; at = 0; name = [] } → IsLooking page r
looks_first page r is =
    let h : IsLooking page (record { text = page; at = 0; name = [] }) = record { same = refl; tokens = []; spelled = spells_none page; named = refl; none = refl } in
    subst (IsLooking page) (sym is) h

other_none : (before : List ℕ) (x : Lexed) (t : Tok) → is_start x ≡ false → Means before x t → no_start (t ∷ []) ≡ true
other_none before (start_tok from to name attrs slash) t o m = cc
other_none before (end_tok from to name) t o m = ap (λ u. no_start (u ∷ [])) m
other_none before (text_tok from to raw refs) t o m = ap (λ u. no_start (u ∷ [])) m
other_none before (comment_tok from to body) t o m = ap (λ u. no_start (u ∷ [])) m
other_none before (doctype_tok from to) t o m = ap (λ u. no_start (u ∷ [])) m

at_page : (page : List ℕ) (r : Reading) (h : IsLooking page r) (x : Lexed) → Begins r.text r.name r.at x → Begins page (last_name [] h.spelled.read) r.at x
at_page page r h x begins = subst (λ n. Begins page n r.at x) h.named (subst (λ p. Begins p r.name r.at x) h.same begins)

pub looks_on : (page : List ℕ) (old new : Reading) (x : Lexed) → IsLooking page old → is_start x ≡ false → Begins old.text old.name old.at x → new ≡ record { text = old.text; at = end_of x; name = name_after x } → IsLooking page new
looks_on page old new x h other begins is =
    let b = at_page page old h x begins in
    let m = some_meaning page (last_name [] h.spelled.read) old.at x b in
    let r : IsLooking page (record { text = old.text; at = end_of x; name = name_after x }) = record {
      same = h.same;
      tokens = h.tokens ++ m.0 ∷ [];
      spelled = spells_push page old.at h.tokens h.spelled x m.0 b m.1;
      named = sym (last_push [] h.spelled.read x);
      none = none_push h.tokens m.0 h.none (other_none (last_name [] h.spelled.read) x m.0 other m.1);
    } in
    subst (IsLooking page) (sym is) r

-- all tokens begin with those read, and a start tag
tag_first : (page : List ℕ) (at : ℕ) (ts : List Tok) (tag : Tag) (s : Spells page at (ts ++ starts tag ∷ [])) (w : Whole page) → no_start ts ≡ true → Meets page [] s.read w.spelled.read (ts ++ starts tag ∷ []) w.tokens at w.at
    → is_fragment w.tokens ≡ not (bytes_eq tag.name (codes "html"))
tag_first page at ts tag s w none (even e f same) = ap is_fragment (sym f) ∙ first_fragment ts [] tag none
tag_first page at ts tag s w none (less z t vs next means is below) = ap is_fragment (is ∙ append_assoc ts (starts tag ∷ []) (t ∷ vs)) ∙ first_fragment ts (t ∷ vs) tag none
tag_first page at ts tag s w none (more z t vs next means is below) = absurd (not_stopped page (last_name [] w.spelled.read) w.at z w.stops next)

pub looks_found : (page : List ℕ) (r : Reading) (x : Lexed) → IsLooking page r → Begins r.text r.name r.at x → is_start x ≡ true → IsMade page (not (str_eq_ignore_ascii_case (name_after x) (codes "html")))
looks_found page r (end_tok from to name) h begins is = cc
looks_found page r (text_tok from to raw refs) h begins is = cc
looks_found page r (comment_tok from to body) h begins is = cc
looks_found page r (doctype_tok from to) h begins is = cc
looks_found page r (start_tok from to name attrs slash) h begins is =
    let x = start_tok from to name attrs slash in
    let b = at_page page r h x begins in
    let m = some_meaning page (last_name [] h.spelled.read) r.at x b in
    let tag : Tag = record { name = str_to_ascii_lowercase name; attrs = kept m.1.0; slash = slash } in
    let s : Spells page to (h.tokens ++ starts tag ∷ []) = spells_push page r.at h.tokens h.spelled x (starts tag) b (m.1.0, m.1.1, refl) in
    let w = some_whole page in
    record { whole = w; is = tag_first page to h.tokens tag s w h.none (spellings page to w.at (h.tokens ++ starts tag ∷ []) w.tokens s w.spelled) }

pub looks_end : (page : List ℕ) (r : Reading) → IsLooking page r → r.at ≡ length r.text → IsMade page true
looks_end page r h e =
    let w : Whole page = record { tokens = h.tokens; at = r.at; spelled = h.spelled; stops = inl (e ∙ ap length h.same) } in
    record { whole = w; is = none_fragment h.tokens h.none }

pub looks_fault : (page : List ℕ) (r : Reading) (reason : PageReason) → IsLooking page r → StepAt r.text r.name r.at (Fails reason) → IsMade page true
looks_fault page r reason h fails =
    let f = subst (λ n. StepAt page n r.at (Fails reason)) h.named (subst (λ p. StepAt p r.name r.at (Fails reason)) h.same fails) in
    let w : Whole page = record { tokens = h.tokens; at = r.at; spelled = h.spelled; stops = inr (reason, f) } in
    record { whole = w; is = none_fragment h.tokens h.none }
